use Rattle.syntax_reader.specs.Definitions as a
use Rattle.syntax_reader.proofs.definition.number.Goals as goal

pub returns-in-Some : goal.returns-in-Some
returns-in-Some c = rw c.in_ok-value.ensures (a.whole c.in-Some.ensures.is c.in_ok-x.ensures)

pub returns : goal.returns
returns c = rw c.in_ok-value-2.ensures (a.scaled c.in_ok-k.ensures.is c.in_ok-x-2.ensures)

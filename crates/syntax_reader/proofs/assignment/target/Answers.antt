use Rattle.syntax_reader.specs.Plain as a
use Rattle.syntax_reader.proofs.assignment.target.Goals as goal

pub returns-in-Some : goal.returns-in-Some
returns-in-Some c = a.name c.in-Some.ensures.is c.in_ok-word.ensures

pub returns : goal.returns
returns c = a.qualified c.in_ok-k.ensures.is c.in_ok-named.ensures

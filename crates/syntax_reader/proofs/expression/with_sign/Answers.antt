use Rattle.syntax_reader.specs.Expressions as a
use Rattle.syntax_reader.proofs.expression.with_sign.Goals as goal

pub returns-in-Some : goal.returns-in-Some
returns-in-Some c = rw c.in_ok-made.ensures (a.positive c.in-Some.ensures.is c.in_ok-at.ensures)

pub returns : goal.returns
returns c = rw c.in_ok-made-2.ensures (a.negative c.in_ok-k.ensures.is c.in_ok-at-2.ensures)

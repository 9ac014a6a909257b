use Rattle.syntax_reader.specs.Expressions as a
use Rattle.syntax_reader.proofs.operator.plus_or_minus.Goals as goal

pub returns-in-Some : goal.returns-in-Some
returns-in-Some c = a.plus c.in-Some.ensures.is c.in_ok-at.ensures

pub returns-in-Some-uses : goal.returns-in-Some-uses
returns-in-Some-uses c = a.minus c.in-Some-uses.ensures.is c.in_ok-at-2.ensures

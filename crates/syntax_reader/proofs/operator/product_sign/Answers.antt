use Rattle.syntax_reader.specs.Expressions as a
use Rattle.syntax_reader.proofs.operator.product_sign.Goals as goal

pub returns-in-Some : goal.returns-in-Some
returns-in-Some c = a.star c.in-Some.ensures.is c.in_ok-at.ensures

pub returns-in-Some-uses : goal.returns-in-Some-uses
returns-in-Some-uses c = a.slash c.in-Some-uses.ensures.is c.in_ok-at-2.ensures

pub returns-in-Some-uses-2 : goal.returns-in-Some-uses-2
returns-in-Some-uses-2 c = a.modulo c.in-Some-uses-2.ensures.is c.in_ok-at-3.ensures

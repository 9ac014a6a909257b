use Rattle.syntax_reader.specs.Expressions as a
use Rattle.syntax_reader.proofs.operator.spelled_comparison.Goals as goal

pub returns-in-Some : goal.returns-in-Some
returns-in-Some c = a.eq c.in-Some.ensures.is c.in_ok-at.ensures

pub returns-in-Some-uses : goal.returns-in-Some-uses
returns-in-Some-uses c = a.ne c.in-Some-uses.ensures.is c.in_ok-at-2.ensures

pub returns-in-Some-uses-2 : goal.returns-in-Some-uses-2
returns-in-Some-uses-2 c = a.lt c.in-Some-uses-2.ensures.is c.in_ok-at-3.ensures

pub returns-in-Some-uses-3 : goal.returns-in-Some-uses-3
returns-in-Some-uses-3 c = a.gt c.in-Some-uses-3.ensures.is c.in_ok-at-4.ensures

pub returns-in-Some-uses-4 : goal.returns-in-Some-uses-4
returns-in-Some-uses-4 c = a.le c.in-Some-uses-4.ensures.is c.in_ok-at-5.ensures

pub returns-in-Some-uses-5 : goal.returns-in-Some-uses-5
returns-in-Some-uses-5 c = a.ge c.in-Some-uses-5.ensures.is c.in_ok-at-6.ensures

use Rattle.syntax_reader.specs.Expressions as a
use Rattle.syntax_reader.proofs.operator.comparison.Goals as goal

pub returns-in-Some : goal.returns-in-Some
returns-in-Some c = a.equals c.in-Some.ensures.is c.in_ok-at.ensures

pub returns-in-Some-uses : goal.returns-in-Some-uses
returns-in-Some-uses c = a.not_equal c.in-Some-uses.ensures.is c.in_ok-at-2.ensures

pub returns-in-Some-uses-2 : goal.returns-in-Some-uses-2
returns-in-Some-uses-2 c = a.less c.in-Some-uses-2.ensures.is c.in_ok-at-3.ensures

pub returns-in-Some-uses-3 : goal.returns-in-Some-uses-3
returns-in-Some-uses-3 c = a.greater c.in-Some-uses-3.ensures.is c.in_ok-at-4.ensures

pub returns-in-Some-uses-4 : goal.returns-in-Some-uses-4
returns-in-Some-uses-4 c = a.less_or_equal c.in-Some-uses-4.ensures.is c.in_ok-at-5.ensures

pub returns-in-Some-uses-5 : goal.returns-in-Some-uses-5
returns-in-Some-uses-5 c = a.greater_or_equal c.in-Some-uses-5.ensures.is c.in_ok-at-6.ensures

pub returns-in-Some-uses-6 : goal.returns-in-Some-uses-6
returns-in-Some-uses-6 c = a.begins c.in-Some-uses-6.ensures.is c.in_ok-at-7.ensures

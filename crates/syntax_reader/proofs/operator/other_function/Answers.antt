use Rattle.syntax_reader.specs.Expressions as a
use Rattle.syntax_reader.proofs.operator.other_function.Goals as goal

pub returns-in-Some : goal.returns-in-Some
returns-in-Some c = a.num_entries c.in-Some.ensures.is

pub returns-in-Some-uses : goal.returns-in-Some-uses
returns-in-Some-uses c = a.date c.in-Some-uses.ensures.is

pub returns-in-Some-uses-2 : goal.returns-in-Some-uses-2
returns-in-Some-uses-2 c = a.year c.in-Some-uses-2.ensures.is

pub returns-in-Some-uses-3 : goal.returns-in-Some-uses-3
returns-in-Some-uses-3 c = a.month c.in-Some-uses-3.ensures.is

pub returns-in-Some-uses-4 : goal.returns-in-Some-uses-4
returns-in-Some-uses-4 c = a.day c.in-Some-uses-4.ensures.is

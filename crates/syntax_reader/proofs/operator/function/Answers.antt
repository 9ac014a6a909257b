use Rattle.syntax_reader.specs.Expressions as a
use Rattle.syntax_reader.proofs.operator.function.Goals as goal

pub returns-in-Some : goal.returns-in-Some
returns-in-Some c = a.integer c.in-Some.ensures.is

pub returns-in-Some-uses : goal.returns-in-Some-uses
returns-in-Some-uses c = a.int64 c.in-Some-uses.ensures.is

pub returns-in-Some-uses-2 : goal.returns-in-Some-uses-2
returns-in-Some-uses-2 c = a.decimal c.in-Some-uses-2.ensures.is

pub returns-in-Some-uses-3 : goal.returns-in-Some-uses-3
returns-in-Some-uses-3 c = a.substring c.in-Some-uses-3.ensures.is

pub returns-in-Some-uses-4 : goal.returns-in-Some-uses-4
returns-in-Some-uses-4 c = a.length c.in-Some-uses-4.ensures.is

pub returns-in-Some-uses-5 : goal.returns-in-Some-uses-5
returns-in-Some-uses-5 c = a.entry c.in-Some-uses-5.ensures.is

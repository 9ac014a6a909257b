use Rattle.syntax_reader.specs.Statements as a
use Rattle.syntax_reader.proofs.statement.plain.Goals as goal

pub returns-in-Some-clause-is : goal.returns-in-Some-clause-is
returns-in-Some-clause-is c = a.assignment c.in-Some.ensures.is c.in_ok-made.ensures.is

pub returns-in-Some-uses-clause-is : goal.returns-in-Some-uses-clause-is
returns-in-Some-uses-clause-is c = a.record_statement c.in-Some-uses.ensures.is c.in_ok-made-2.ensures.is

pub returns-in-Some-uses-2-clause-is : goal.returns-in-Some-uses-2-clause-is
returns-in-Some-uses-2-clause-is c = a.flow c.in-Some-uses-2.ensures.is c.in_ok-made-3.ensures.is

pub returns-in-Some-uses-3-clause-is : goal.returns-in-Some-uses-3-clause-is
returns-in-Some-uses-3-clause-is c = a.streaming c.in-Some-uses-3.ensures.is c.in_ok-made-4.ensures.is

pub returns-in-Some-uses-4-clause-is : goal.returns-in-Some-uses-4-clause-is
returns-in-Some-uses-4-clause-is c = a.define c.in-Some-uses-4.ensures.is c.in_ok-made-5.ensures.is

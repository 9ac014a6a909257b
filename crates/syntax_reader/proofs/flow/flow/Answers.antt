use Rattle.syntax_reader.specs.Plain as a
use Rattle.syntax_reader.proofs.flow.flow.Goals as goal

pub returns-in-Some-clause-is : goal.returns-in-Some-clause-is
returns-in-Some-clause-is c = a.run c.in-Some.ensures.is c.in_ok-procedure.ensures c.in_ok-arguments.ensures.is c.in_ok-quiet.ensures.is

pub returns-in-Some-uses-3-clause-is : goal.returns-in-Some-uses-3-clause-is
returns-in-Some-uses-3-clause-is c = a.stop c.in-Some-uses-3.ensures.is

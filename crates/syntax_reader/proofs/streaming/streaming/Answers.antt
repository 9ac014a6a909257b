use Rattle.syntax_reader.specs.Streaming as a
use Rattle.syntax_reader.proofs.streaming.streaming.Goals as goal

pub returns-in-Some-clause-is : goal.returns-in-Some-clause-is
returns-in-Some-clause-is c = a.message c.in-Some.ensures.is c.in_ok-values.ensures.is

pub returns-in-Some-uses-clause-is : goal.returns-in-Some-uses-clause-is
returns-in-Some-uses-clause-is c = a.put c.in-Some-uses.ensures.is c.in_ok-stream.ensures c.in_ok-plain.ensures.is c.in_ok-items.ensures.is

pub returns-in-Some-uses-2-clause-is : goal.returns-in-Some-uses-2-clause-is
returns-in-Some-uses-2-clause-is c = a.export c.in-Some-uses-2.ensures.is c.in_ok-stream-2.ensures c.in_ok-values-2.ensures.is

pub returns-in-Some-uses-3-clause-is : goal.returns-in-Some-uses-3-clause-is
returns-in-Some-uses-3-clause-is c = a.import c.in-Some-uses-3.ensures.is c.in_ok-stream-3.ensures c.in_ok-targets.ensures.is c.in_ok-quiet.ensures.is

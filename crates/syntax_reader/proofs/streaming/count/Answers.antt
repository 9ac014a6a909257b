use Rattle.syntax_reader.specs.Streaming as a
use Rattle.syntax_reader.proofs.streaming.count.Goals as goal

pub returns-in-Some-clause-is : goal.returns-in-Some-clause-is
returns-in-Some-clause-is c = a.count c.in-Some.ensures.is c.in_ok-number.ensures c.in_ok-at.ensures

pub returns-clause-is : goal.returns-clause-is
returns-clause-is c = a.no_count c.in_ok-k.ensures.is

use Rattle.syntax_reader.specs.Streaming as a
use Rattle.syntax_reader.proofs.streaming.put_item.Goals as goal

pub returns-in-Some-clause-is : goal.returns-in-Some-clause-is
returns-in-Some-clause-is c = a.shows c.in-Some.ensures.is c.in_ok-value.ensures.is c.in_ok-mask.ensures.is

pub returns-in-Some-uses-clause-is : goal.returns-in-Some-uses-clause-is
returns-in-Some-uses-clause-is c = a.skip c.in_ok-k.ensures.is c.in-Some-uses.ensures.is c.in_ok-found.ensures.is

pub returns-clause-is : goal.returns-clause-is
returns-clause-is c = a.space c.in_ok-k.ensures.is c.in_ok-j.ensures.is c.in_ok-found.ensures.is

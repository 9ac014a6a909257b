use Rattle.syntax_reader.specs.Streaming as a
use Rattle.syntax_reader.proofs.streaming.output.Goals as goal

pub returns-in-Some-clause-is : goal.returns-in-Some-clause-is
returns-in-Some-clause-is c = a.output_to c.in_ok-k.ensures.is c.in_ok-stream.ensures c.in-Some.ensures.is c.in_ok-word.ensures c.in_ok-append.ensures.is

pub returns-clause-is : goal.returns-clause-is
returns-clause-is c = a.output_close c.in_ok-k.ensures.is c.in_ok-stream.ensures c.in_ok-j.ensures.is

use Rattle.syntax_reader.specs.Streaming as a
use Rattle.syntax_reader.proofs.streaming.input.Goals as goal

pub returns-in-Some-clause-is : goal.returns-in-Some-clause-is
returns-in-Some-clause-is c = a.input_from c.requires.uses c.in_ok-stream.ensures c.in-Some.ensures.is c.in_ok-word.ensures

pub returns-clause-is : goal.returns-clause-is
returns-clause-is c = a.input_close c.requires.uses c.in_ok-stream.ensures c.in_ok-j.ensures.is

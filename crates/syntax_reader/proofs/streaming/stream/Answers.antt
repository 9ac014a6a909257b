use Rattle.syntax_reader.specs.Streaming as a
use Rattle.syntax_reader.proofs.streaming.stream.Goals as goal

pub returns : goal.returns
returns c = a.choice c.in_ok-k.ensures.is c.in_ok-word.ensures.is

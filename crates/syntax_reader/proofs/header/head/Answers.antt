use Rattle.syntax_reader.specs.Headers as a
use Rattle.syntax_reader.proofs.header.head.Goals as goal

pub returns-clause-is : goal.returns-clause-is
returns-clause-is c = a.head c.in_ok-at.ensures.is c.in_ok-k.ensures.is c.in_ok-counting.ensures.is c.in_ok-phrases.ensures.is

use Rattle.syntax_reader.specs.Headers as a
use Rattle.syntax_reader.proofs.header.buffers.Goals as goal

pub returns-in-Some-clause-is : goal.returns-in-Some-clause-is
returns-in-Some-clause-is c = rw c.in_ok-found.ensures.is.is (a.buffers c.in-Some.ensures.is c.in_ok-first.ensures c.in_ok-found.ensures.is.read)

pub returns-clause-is : goal.returns-clause-is
returns-clause-is c = rw c.new.ensures.items (a.no_buffers c.in_ok-k.ensures.is)

use Rattle.syntax_reader.specs.Headers as a
use Rattle.syntax_reader.proofs.header.opening.Goals as goal

pub returns-in-Some-clause-is : goal.returns-in-Some-clause-is
returns-in-Some-clause-is c = a.plainly c.in-Some.ensures.is c.in_ok-at.ensures c.in_ok-word.ensures c.in_ok-buffers.ensures.is

pub returns-clause-is : goal.returns-clause-is
returns-clause-is c = a.for_records c.in_ok-k.ensures.is c.in_ok-at-2.ensures c.in_ok-which.ensures c.in_ok-buffer.ensures c.in_ok-options.ensures.is

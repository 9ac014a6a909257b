use Rattle.syntax_reader.specs.Headers as a
use Rattle.syntax_reader.proofs.header.counting.Goals as goal

pub returns-in-Some-clause-is : goal.returns-in-Some-clause-is
returns-in-Some-clause-is c = a.counting c.in-Some.ensures.is c.in_ok-word.ensures c.in_ok-start.ensures.is c.in_ok-end.ensures.is c.in_ok-by.ensures.is

pub returns-clause-is : goal.returns-clause-is
returns-clause-is c = a.no_counting c.in_ok-k.ensures.is

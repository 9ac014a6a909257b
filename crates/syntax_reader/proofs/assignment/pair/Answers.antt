use Rattle.syntax_reader.specs.Plain as a
use Rattle.syntax_reader.proofs.assignment.pair.Goals as goal

pub returns-clause-is : goal.returns-clause-is
returns-clause-is c = a.pair c.in_ok-target.ensures c.in_ok-right.ensures.is

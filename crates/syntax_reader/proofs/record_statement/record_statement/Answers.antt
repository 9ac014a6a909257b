use Rattle.syntax_reader.specs.Plain as a
use Rattle.syntax_reader.proofs.record_statement.record_statement.Goals as goal

pub returns-in-Some-clause-is : goal.returns-in-Some-clause-is
returns-in-Some-clause-is c = a.find c.in-Some.ensures.is c.in_ok-which.ensures c.in_ok-buffer.ensures c.in_ok-options.ensures.is

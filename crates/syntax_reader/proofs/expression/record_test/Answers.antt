use Rattle.syntax_reader.specs.Expressions as a
use Rattle.syntax_reader.proofs.expression.record_test.Goals as goal

pub returns-in-Some-clause-is : goal.returns-in-Some-clause-is
returns-in-Some-clause-is c = a.available c.requires.uses c.in_ok-at.ensures c.in-Some.ensures.is c.in_ok-buffer.ensures

pub returns-clause-is : goal.returns-clause-is
returns-clause-is c = a.locked c.requires.uses c.in_ok-at.ensures c.in_ok-j.ensures.is c.in_ok-buffer.ensures

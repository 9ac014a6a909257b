use Rattle.syntax_reader.specs.Statements as a
use Rattle.syntax_reader.proofs.statement.item.Goals as goal

pub returns-in-Some-clause-is : goal.returns-in-Some-clause-is
returns-in-Some-clause-is c = a.alone c.in-Some.ensures.is c.in_ok-made.ensures.is

pub returns-clause-is : goal.returns-clause-is
returns-clause-is c = a.procedure c.in_ok-k.ensures.is c.in_ok-at.ensures c.in_ok-word.ensures c.in_ok-body.ensures.is

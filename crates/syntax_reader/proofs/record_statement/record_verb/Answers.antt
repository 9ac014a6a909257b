use Rattle.syntax_reader.specs.Plain as a
use Rattle.syntax_reader.proofs.record_statement.record_verb.Goals as goal

pub returns-in-Some-clause-is : goal.returns-in-Some-clause-is
returns-in-Some-clause-is c = a.create c.in_ok-k.ensures.is c.in-Some.ensures.is c.in_ok-buffer.ensures c.in_ok-quiet.ensures.is

pub returns-in-Some-uses-clause-is : goal.returns-in-Some-uses-clause-is
returns-in-Some-uses-clause-is c = a.delete c.in_ok-k.ensures.is c.in-Some-uses.ensures.is c.in_ok-buffer.ensures c.in_ok-quiet.ensures.is

pub returns-clause-is : goal.returns-clause-is
returns-clause-is c = a.release c.in_ok-k.ensures.is c.in_ok-j.ensures.is c.in_ok-buffer.ensures c.in_ok-quiet.ensures.is

use Rattle.syntax_reader.specs.Plain as a
use Rattle.syntax_reader.proofs.flow.leave_or_next.Goals as goal

pub returns-in-Some-clause-is : goal.returns-in-Some-clause-is
returns-in-Some-clause-is c = a.leave c.in_ok-k.ensures.is c.in_ok-at.ensures c.in-Some.ensures.is c.in_ok-label.ensures.is

pub returns-clause-is : goal.returns-clause-is
returns-clause-is c = a.next c.in_ok-k.ensures.is c.in_ok-at.ensures c.in_ok-j.ensures.is c.in_ok-label.ensures.is

use Rattle.syntax_reader.specs.Headers as a
use Rattle.syntax_reader.proofs.action.action.Goals as goal

pub returns-in-Some-clause-is : goal.returns-in-Some-clause-is
returns-in-Some-clause-is c = a.return c.in-Some.ensures.is c.in_ok-at.ensures c.in_ok-error.ensures c.in_ok-value.ensures.is

pub returns-in-Some-uses-clause-is : goal.returns-in-Some-uses-clause-is
returns-in-Some-uses-clause-is c = a.leave c.in_ok-k.ensures.is c.in_ok-at-2.ensures c.in-Some-uses.ensures.is c.in_ok-label.ensures.is

pub returns-in-Some-uses-2-clause-is : goal.returns-in-Some-uses-2-clause-is
returns-in-Some-uses-2-clause-is c = a.next c.in_ok-k.ensures.is c.in_ok-at-2.ensures c.in-Some-uses-2.ensures.is c.in_ok-label.ensures.is

pub returns-clause-is : goal.returns-clause-is
returns-clause-is c = a.retry c.in_ok-k.ensures.is c.in_ok-at-2.ensures c.in_ok-j.ensures.is c.in_ok-label.ensures.is

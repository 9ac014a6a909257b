use Rattle.syntax_reader.specs.Headers as a
use Rattle.syntax_reader.proofs.record.lock.Goals as goal

pub returns-in-Some-clause-is : goal.returns-in-Some-clause-is
returns-in-Some-clause-is c = a.no_lock c.in-Some.ensures.is c.in_ok-at.ensures

pub returns-in-Some-uses-clause-is : goal.returns-in-Some-uses-clause-is
returns-in-Some-uses-clause-is c = a.share_lock c.in-Some-uses.ensures.is c.in_ok-at-2.ensures

pub returns-clause-is : goal.returns-clause-is
returns-clause-is c = a.exclusive_lock c.in_ok-k.ensures.is c.in_ok-at-3.ensures

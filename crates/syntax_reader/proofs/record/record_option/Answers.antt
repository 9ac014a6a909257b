use Rattle.syntax_reader.specs.Headers as a
use Rattle.syntax_reader.proofs.record.record_option.Goals as goal

pub returns-in-Some-clause-is : goal.returns-in-Some-clause-is
returns-in-Some-clause-is c = a.filter c.in-Some.ensures.is c.in_ok-at.ensures c.in_ok-test.ensures.is

pub returns-in-Some-uses-clause-is : goal.returns-in-Some-uses-clause-is
returns-in-Some-uses-clause-is c = a.use_index c.in-Some-uses.ensures.is c.in_ok-at-2.ensures c.in_ok-index.ensures

use Rattle.syntax_reader.specs.Plain as a
use Rattle.syntax_reader.proofs.record_statement.find_option.Goals as goal

pub returns-in-Some-clause-is : goal.returns-in-Some-clause-is
returns-in-Some-clause-is c = a.record_option c.in-Some.ensures.is c.in_ok-option.ensures.is

pub returns-in-Some-uses-clause-is : goal.returns-in-Some-uses-clause-is
returns-in-Some-uses-clause-is c = a.no_wait c.in-Some-uses.ensures.is c.in_ok-at.ensures

pub returns-in-Some-uses-2-clause-is : goal.returns-in-Some-uses-2-clause-is
returns-in-Some-uses-2-clause-is c = a.no_error c.in-Some-uses-2.ensures.is c.in_ok-at-2.ensures

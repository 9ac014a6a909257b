use Rattle.syntax_reader.specs.Expressions as a
use Rattle.syntax_reader.proofs.expression.other_primary.Goals as goal

pub returns-in-Some-uses-clause-is : goal.returns-in-Some-uses-clause-is
returns-in-Some-uses-clause-is c = a.retry c.in-Some-uses.ensures.is c.in_ok-at.ensures

pub returns-in-Some-uses-2-clause-is : goal.returns-in-Some-uses-2-clause-is
returns-in-Some-uses-2-clause-is c = a.return_value c.in-Some-uses-2.ensures.is c.in_ok-at-2.ensures

pub returns-in-Some-uses-3-clause-is : goal.returns-in-Some-uses-3-clause-is
returns-in-Some-uses-3-clause-is c = a.error_status c.in-Some-uses-3.ensures.is c.in_ok-at-3.ensures

pub returns-clause-is : goal.returns-clause-is
returns-clause-is c = a.constant (rw c.in-Some-2.is at c.in_ok-value.ensures)

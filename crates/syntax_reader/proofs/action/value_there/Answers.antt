use Rattle.syntax_reader.specs.Headers as a
use Rattle.syntax_reader.proofs.action.value_there.Goals as goal

pub returns-in-Some-clause-is : goal.returns-in-Some-clause-is
returns-in-Some-clause-is c = a.value_there c.in-Some.ensures.is c.in_ok-value.ensures.is

pub returns-clause-is : goal.returns-clause-is
returns-clause-is c = a.no_value c.in_ok-k.ensures.is

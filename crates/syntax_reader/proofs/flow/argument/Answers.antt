use Rattle.syntax_reader.specs.Plain as a
use Rattle.syntax_reader.proofs.flow.argument.Goals as goal

pub returns-in-Some-clause-is : goal.returns-in-Some-clause-is
returns-in-Some-clause-is c = a.input c.in-Some.ensures.is c.in_ok-at.ensures c.in_ok-input.ensures.is c.in_ok-value.ensures.is

pub returns-in-Some-uses-clause-is : goal.returns-in-Some-uses-clause-is
returns-in-Some-uses-clause-is c = a.output c.in_ok-k.ensures.is c.in_ok-at-2.ensures c.in-Some-uses.ensures.is c.in_ok-word.ensures

pub returns-clause-is : goal.returns-clause-is
returns-clause-is c = a.input_output c.in_ok-k.ensures.is c.in_ok-at-2.ensures c.in_ok-j.ensures.is c.in_ok-word.ensures

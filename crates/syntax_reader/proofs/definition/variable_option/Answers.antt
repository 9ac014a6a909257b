use Rattle.syntax_reader.specs.Definitions as a
use Rattle.syntax_reader.proofs.definition.variable_option.Goals as goal

pub returns-in-Some-clause-is : goal.returns-in-Some-clause-is
returns-in-Some-clause-is c = a.no_undo c.in-Some.ensures.is c.in_ok-at.ensures

pub returns-in-Some-uses-clause-is : goal.returns-in-Some-uses-clause-is
returns-in-Some-uses-clause-is c = a.initial c.in-Some-uses.ensures.is c.in_ok-at-2.ensures c.in_ok-value.ensures.is

pub returns-in-Some-uses-2-clause-is : goal.returns-in-Some-uses-2-clause-is
returns-in-Some-uses-2-clause-is c = a.format c.in_ok-k.ensures.is c.in_ok-at-3.ensures c.in-Some-uses-2.ensures.is c.in_ok-mask.ensures

pub returns-clause-is : goal.returns-clause-is
returns-clause-is c = a.label c.in_ok-k.ensures.is c.in_ok-at-3.ensures c.in_ok-j.ensures.is

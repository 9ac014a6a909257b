use Rattle.syntax_reader.specs.Definitions as a
use Rattle.syntax_reader.proofs.definition.definition.Goals as goal

pub returns-in-Some-clause-is : goal.returns-in-Some-clause-is
returns-in-Some-clause-is c = a.variable c.in-Some.ensures.is c.in_ok-word.ensures c.in_ok-kind.ensures c.in_ok-options.ensures.is

pub returns-in-Some-uses-clause-is : goal.returns-in-Some-uses-clause-is
returns-in-Some-uses-clause-is c = a.buffer c.in-Some-uses.ensures.is c.in_ok-buffer.ensures c.in_ok-table.ensures

pub returns-in-Some-uses-2-clause-is : goal.returns-in-Some-uses-2-clause-is
returns-in-Some-uses-2-clause-is c = a.stream c.in-Some-uses-2.ensures.is c.in_ok-word-2.ensures

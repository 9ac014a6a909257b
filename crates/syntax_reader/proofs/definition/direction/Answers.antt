use Rattle.syntax_reader.specs.Definitions as a
use Rattle.syntax_reader.proofs.definition.direction.Goals as goal

pub returns-in-Some : goal.returns-in-Some
returns-in-Some c = a.input c.in-Some.ensures.is

pub returns-in-Some-uses : goal.returns-in-Some-uses
returns-in-Some-uses c = a.output c.in-Some-uses.ensures.is

pub returns-in-Some-uses-2 : goal.returns-in-Some-uses-2
returns-in-Some-uses-2 c = a.input_output c.in-Some-uses-2.ensures.is

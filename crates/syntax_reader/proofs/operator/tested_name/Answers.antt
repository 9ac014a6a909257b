use Rattle.syntax_reader.specs.Expressions as a
use Rattle.syntax_reader.proofs.operator.tested_name.Goals as goal

pub returns-in-Some : goal.returns-in-Some
returns-in-Some c = a.bare c.in-Some.ensures.is c.in_ok-word.ensures

pub returns : goal.returns
returns c = a.enclosed c.in_ok-k.ensures.is c.in_ok-word-2.ensures

use Rattle.syntax_reader.specs.Definitions as a
use Rattle.syntax_reader.proofs.definition.parameter.Goals as goal

pub returns-clause-is : goal.returns-clause-is
returns-clause-is c = a.parameter c.in_ok-k.ensures.is c.in_ok-direction.ensures c.in_ok-at.ensures c.in_ok-word.ensures c.in_ok-kind.ensures c.in_ok-options.ensures.is

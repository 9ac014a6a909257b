use Rattle.kind_laws.proofs.Evaluated.{evaluated_good}
use Rattle.kind_laws.proofs.laws.evaluated_expressions_are_good.Goals as goal

pub returns : goal.returns
returns c = evaluated_good

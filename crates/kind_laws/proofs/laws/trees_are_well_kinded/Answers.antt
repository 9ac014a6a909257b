use Rattle.kind_laws.proofs.Trees.{tree_kinded}
use Rattle.kind_laws.proofs.laws.trees_are_well_kinded.Goals as goal

pub returns : goal.returns
returns c = tree_kinded

use Rattle.kind_laws.proofs.Bound.{bound_placed}
use Rattle.kind_laws.proofs.laws.trees_name_blocks_around.Goals as goal

pub returns : goal.returns
returns c = bound_placed

use Rattle.parser.proofs.NodeOrder.{one_tree}
use Rattle.parser.proofs.laws.one_tree_spells.Goals as goal

pub returns : goal.returns
returns c = one_tree

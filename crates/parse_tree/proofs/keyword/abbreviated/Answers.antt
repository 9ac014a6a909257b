use Rattle.std.proofs.Common.{refl}
use Rattle.parse_tree.specs.Keywords.{abbreviated}
use Rattle.parse_tree.proofs.keyword.abbreviated.Goals as goal

pub returns : goal.returns
unfolding abbreviated
returns c = refl

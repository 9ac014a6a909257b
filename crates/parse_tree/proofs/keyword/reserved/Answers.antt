use Rattle.std.proofs.Common.{refl}
use Rattle.parse_tree.specs.Keywords.{reserved}
use Rattle.parse_tree.proofs.keyword.reserved.Goals as goal

pub returns : goal.returns
unfolding reserved
returns c = refl

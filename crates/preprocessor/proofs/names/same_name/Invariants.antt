use Rattle.std.proofs.Common.{◌≡◌, length}
use Rattle.preprocessor.specs.Names.{same_name}
use Rattle.preprocessor.proofs.names.same_name.Given as goal

abbrev pub invariant-loop-x : goal.invariant-loop-x
invariant-loop-x l = same_name l.x l.y ≡ same_name l.a l.b

abbrev pub decreases-loop-x : goal.decreases-loop-x
decreases-loop-x l = length l.x

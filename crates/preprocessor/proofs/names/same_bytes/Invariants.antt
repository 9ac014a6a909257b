use Rattle.std.proofs.Common.{◌≡◌, length}
use Rattle.preprocessor.specs.Names.{same_bytes}
use Rattle.preprocessor.proofs.names.same_bytes.Given as goal

abbrev pub invariant-loop-x : goal.invariant-loop-x
invariant-loop-x l = same_bytes l.x l.y ≡ same_bytes l.a l.b

abbrev pub decreases-loop-x : goal.decreases-loop-x
decreases-loop-x l = length l.x

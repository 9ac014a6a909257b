use Rattle.std.proofs.Common.{◌≡◌, [], length}
use Rattle.preprocessor.specs.Conditions.{without_trailing}
use Rattle.preprocessor.proofs.condition.without_trailing.Given as goal

abbrev pub invariant-loop-rest : goal.invariant-loop-rest
invariant-loop-rest l = without_trailing l.dropped l.kept l.run l.rest ≡ without_trailing l.dropped [] [] l.bytes

abbrev pub decreases-loop-rest : goal.decreases-loop-rest
decreases-loop-rest l = length l.rest

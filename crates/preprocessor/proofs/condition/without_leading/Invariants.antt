use Rattle.std.proofs.Common.{◌≡◌, length}
use Rattle.preprocessor.specs.Conditions.{without_leading}
use Rattle.preprocessor.proofs.condition.without_leading.Given as goal

abbrev pub invariant-loop-rest : goal.invariant-loop-rest
invariant-loop-rest l = without_leading l.dropped l.rest ≡ without_leading l.dropped l.bytes

abbrev pub decreases-loop-rest : goal.decreases-loop-rest
decreases-loop-rest l = length l.rest

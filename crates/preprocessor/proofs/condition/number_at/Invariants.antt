use Rattle.std.proofs.Common.{◌≡◌, [], false, length}
use Rattle.preprocessor.specs.Conditions.{number_at}
use Rattle.preprocessor.proofs.condition.number_at.Given as goal

abbrev pub invariant-loop-rest : goal.invariant-loop-rest
invariant-loop-rest l = number_at l.point l.whole l.fraction l.rest ≡ number_at false [] [] l.word

abbrev pub decreases-loop-rest : goal.decreases-loop-rest
decreases-loop-rest l = length l.rest

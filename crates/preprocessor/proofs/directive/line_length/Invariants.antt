use Rattle.std.proofs.Common.{◌≡◌, ◌+◌, length}
use Rattle.preprocessor.specs.Directives.{line_length}
use Rattle.preprocessor.proofs.directive.line_length.Given as goal

abbrev pub invariant-loop-rest : goal.invariant-loop-rest
invariant-loop-rest l = (l.n + line_length l.rest ≡ line_length l.bytes) × (l.n + length l.rest ≡ length l.bytes)

abbrev pub decreases-loop-rest : goal.decreases-loop-rest
decreases-loop-rest l = length l.rest

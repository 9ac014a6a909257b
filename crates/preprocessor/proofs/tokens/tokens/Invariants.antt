use Rattle.std.proofs.Common.{◌≡◌, ◌++◌, [], length}
use Rattle.preprocessor.specs.Conditions.{tokens}
use Rattle.preprocessor.proofs.tokens.tokens.Given as goal

abbrev pub invariant-loop-rest : goal.invariant-loop-rest
invariant-loop-rest l = l.done ++ tokens l.quote l.skip l.held l.rest ≡ tokens 0 0 [] l.bytes

abbrev pub decreases-loop-rest : goal.decreases-loop-rest
decreases-loop-rest l = length l.rest

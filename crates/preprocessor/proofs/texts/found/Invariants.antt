use Rattle.std.proofs.Common.{◌≡◌, ◌+◌, length}
use Rattle.preprocessor.specs.Texts.{found}
use Rattle.preprocessor.proofs.texts.found.Given as goal

abbrev pub invariant-loop-rest : goal.invariant-loop-rest
invariant-loop-rest l = (found l.i l.name l.rest ≡ found 0 l.name l.texts) × (l.i + length l.rest ≡ length l.texts)

abbrev pub decreases-loop-rest : goal.decreases-loop-rest
decreases-loop-rest l = length l.rest

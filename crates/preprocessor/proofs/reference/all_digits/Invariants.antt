use Rattle.std.proofs.Common.{◌≡◌, length}
use Rattle.preprocessor.specs.References.{all_digits}
use Rattle.preprocessor.proofs.reference.all_digits.Given as goal

abbrev pub invariant-loop-rest : goal.invariant-loop-rest
invariant-loop-rest l = all_digits l.rest ≡ all_digits l.word

abbrev pub decreases-loop-rest : goal.decreases-loop-rest
decreases-loop-rest l = length l.rest

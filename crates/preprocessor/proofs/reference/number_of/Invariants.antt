use Rattle.std.proofs.Common.{◌≡◌, ◌≤◌, length, true}
use Rattle.preprocessor.specs.References.{all_digits, number_of}
use Rattle.preprocessor.proofs.reference.number_of.Given as goal

abbrev pub invariant-loop-rest : goal.invariant-loop-rest
invariant-loop-rest l = (number_of l.n l.rest ≡ number_of 0 l.word) × (all_digits l.rest ≡ true) × (l.n ≤ 1048576)

abbrev pub decreases-loop-rest : goal.decreases-loop-rest
decreases-loop-rest l = length l.rest

use Rattle.std.proofs.Common.{◌≡◌, ◌++◌, None, false, length}
use Rattle.preprocessor.specs.Words.{words}
use Rattle.preprocessor.proofs.words.words.Given as goal

abbrev pub invariant-loop-rest : goal.invariant-loop-rest
invariant-loop-rest l = l.done ++ words l.word l.quoted l.rest ≡ words None false l.bytes

abbrev pub decreases-loop-rest : goal.decreases-loop-rest
decreases-loop-rest l = length l.rest

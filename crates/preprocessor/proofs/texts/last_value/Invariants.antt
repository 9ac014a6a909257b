use Rattle.std.proofs.Common.{◌≡◌, length}
use Rattle.preprocessor.specs.Texts.{last_value}
use Rattle.preprocessor.proofs.texts.last_value.Given as goal

abbrev pub invariant-loop-rest : goal.invariant-loop-rest
invariant-loop-rest l = last_value l.value l.name l.rest ≡ last_value l.found l.name l.definitions

abbrev pub decreases-loop-rest : goal.decreases-loop-rest
decreases-loop-rest l = length l.rest

use Rattle.std.proofs.Common.{◌≡◌, map, take}
use Rattle.preprocessor.specs.Names.{lower}
use Rattle.preprocessor.proofs.condition.lowered.Given as goal

abbrev pub invariant-loop-byte : goal.invariant-loop-byte
invariant-loop-byte l = l.all.items ≡ map lower (take l.byte-index l.bytes)

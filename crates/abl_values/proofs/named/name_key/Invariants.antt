use Rattle.std.proofs.Common.{◌≡◌, length, take}
use Rattle.abl_values.specs.Order.{folded}
use Rattle.abl_values.proofs.named.name_key.Given as goal

abbrev pub invariant-loop-byte : goal.invariant-loop-byte
invariant-loop-byte l = (l.key.items ≡ folded (take l.byte-index l.name)) × (length l.key.items ≡ l.byte-index)

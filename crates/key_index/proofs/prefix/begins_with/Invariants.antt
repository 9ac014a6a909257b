use Rattle.std.proofs.Common.{◌≡◌, ◌<◌, ℕ, get_or}
use Rattle.key_index.proofs.prefix.begins_with.Given as goal

-- the bytes so far are those of the prefix
abbrev pub invariant-loop-i : goal.invariant-loop-i
invariant-loop-i l = (k : ℕ) → k < l.i → get_or l.key k 0 ≡ get_or l.prefix k 0

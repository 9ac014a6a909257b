use Rattle.std.proofs.Common.{◌≡◌, ℕ, ◌<◌, [], length, get_or}
use Rattle.database_layout.specs.contents.Chains.{chain_slot, counted}
use Rattle.database_layout.proofs.stored_text.texts.are_of.Given as goal

abbrev pub invariant-loop-i : goal.invariant-loop-i
invariant-loop-i l = (k : ℕ) → k < l.i → get_or l.slots k [] ≡ chain_slot 3 3 0 (counted 1 (length l.slots)) l.text k

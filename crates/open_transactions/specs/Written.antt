-- The slots that a transaction wrote.
use Rattle.std.specs.Prelude.{ℕ, ◌==◌, ◌||◌, Bool, false, List, [], ◌∷◌}

-- whether the slot is among these
abbrev pub has_written : List ℕ → ℕ → Bool
has_written [] k = false
has_written (slot ∷ slots) k = (k == slot) || has_written slots k

-- Transactions go by numbers: that of a client's transaction, modulo 16, is the client's own.
use Rattle.std.specs.Prelude.{ℕ, ◌%◌, ◌<◌, ◌==◌, Bool, false, if◌then◌else◌, List, [], ◌∷◌, Option, Some, None}
use Rattle.storage.specs.declared.slots.Undo.{Undo}
use Rattle.log_meaning.specs.declared.note.Note.{Note}
use Rattle.log_meaning.specs.declared.note.Note.TheVariants.{Change as Changed, Commit}

-- this is the number
abbrev pub is_number : Option ℕ → ℕ → Bool
is_number None tx = false
is_number (Some n) tx = n == tx

-- some client's transaction has this number: its writes may still be undone or committed
abbrev pub is_live : (ℕ → Option ℕ) → ℕ → Bool
is_live number tx = is_number (number (tx % 16)) tx

-- its writes
abbrev pub undo_of : (ℕ → Option ℕ) → (ℕ → List Undo) → ℕ → List Undo
undo_of number list tx = if is_live number tx then list (tx % 16) else []

-- each note is of a transaction whose number is below this one
abbrev pub AreBelow : ℕ → List Note → Type 0
AreBelow bound [] = Unit {0}
AreBelow bound (Changed c ∷ notes) = (c.tx < bound) × AreBelow bound notes
AreBelow bound (Commit tx ∷ notes) = (tx < bound) × AreBelow bound notes

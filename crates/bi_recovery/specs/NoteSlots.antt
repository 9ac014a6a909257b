-- The slots that notes recover to, as a list.
use Rattle.std.specs.Prelude.{◌≡◌, ◌≢◌, ℕ, Bool, true, List, [], ◌∷◌, map, Option, None, Some}
use Rattle.std.specs.List.Sorted.{IsStrictlyIncreasing}
use Rattle.std.specs.BTreeMap.{BTreeMap, get}
use Rattle.std.specs.Ordering.{nat_cmp}
use Rattle.storage.specs.declared.slots.Undo.{Undo}
use Rattle.storage.specs.Slots.{wrote, undone}
use Rattle.log_meaning.specs.declared.note.Change.{Change}
use Rattle.log_meaning.specs.declared.note.Note.{Note}
use Rattle.log_meaning.specs.Recovered.{changes_of, given, recovered}

-- each entry is of a higher slot than the one before it
abbrev pub IsAscending : List Undo → Type 0
IsAscending slots = IsStrictlyIncreasing (map (λ (u : Undo). u.slot) slots)

-- Over any base these slots are what the notes recover to over it. Each of them has a change, and none comes twice.
pub record AreRecovered (notes : List Note) (slots : List Undo) : Type 0 where
  pub are : (below : ℕ → List ℕ) (s : ℕ) → undone slots below s ≡ recovered notes below s
  pub noted : (s : ℕ) → wrote slots s ≡ true → changes_of s notes ≢ []
  pub ascending : IsAscending slots

-- the bytes that the changes of one slot recover to, if it has any
abbrev pub bytes_of : (ℕ → Bool) → List Change → Option (List ℕ)
bytes_of committed [] = None
bytes_of committed (c ∷ changes) = Some (given committed [] (c ∷ changes))

-- the map has these bytes for each slot with a change, and nothing for any other
abbrev pub HasBytes : (ℕ → Bool) → List Note → BTreeMap ℕ (List ℕ) → Type 0
HasBytes committed notes slots = (s : ℕ) → get nat_cmp slots s ≡ bytes_of committed (changes_of s notes)

-- the entry of a slot with these bytes
abbrev pub undo_of : ℕ × List ℕ → Undo
undo_of e = record { slot = e.0; old = e.1 }

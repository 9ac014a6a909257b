-- The rows under one key with their owners, and the list of those that were left.
use Rattle.std.specs.Prelude.{◌≡◌, ◌⊎◌, ℕ, List, [], ◌∷◌, Option, Some, None, IsSome}
use Rattle.std.specs.Ordering.{nat_cmp}
use Rattle.std.specs.Option.{option_map}
use Rattle.std.specs.BTreeMap as tree
use Rattle.std.specs.BTreeMap.{BTreeMap}
use Rattle.key_index.specs.declared.left.Seat.{Seat}

-- the list has the item
abbrev pub Lists : {X : Type 0} → List X → X → Type 0
Lists [] y = ⊥
Lists (x ∷ xs) y = (x ≡ y) ⊎ Lists xs y

-- the seat of a row: its content and its room
abbrev pub seat_at : BTreeMap ℕ Seat → ℕ → Option Seat
seat_at seats row = tree.get nat_cmp seats row

-- the content of a row: None for an entry, or the client whose placeholder it is
abbrev pub owner_at : BTreeMap ℕ Seat → ℕ → Option (Option ℕ)
owner_at seats row = option_map (λ (s : Seat). s.owner) (seat_at seats row)

-- the rows with their owners alone
abbrev pub owners_of : List (ℕ × Seat) → List (ℕ × Option ℕ)
owners_of [] = []
owners_of (e ∷ es) = (e.0, e.1.owner) ∷ owners_of es

-- the list has the row where it was left, and where the room for it is used
pub record IsListed (left : List ℕ) (row : ℕ) (seat : Seat) : Type 0 where
  pub owned : IsSome seat.owner → Lists left row
  pub used : seat.spare ≡ None → Lists left row

abbrev pub AreListed : BTreeMap ℕ Seat → List ℕ → Type 0
AreListed seats left = (row : ℕ) (seat : Seat) → seat_at seats row ≡ Some seat → IsListed left row seat

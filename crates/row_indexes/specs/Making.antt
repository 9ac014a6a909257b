-- Moves that are made, one after the other.
use Rattle.std.specs.Prelude.{◌≡◌, ◌⊎◌, ℕ, ◌==◌, ◌&&◌, Bool, true, false, if◌then◌else◌, List, [], ◌∷◌, Option, Some, None, IsTrue}
use Rattle.abl_values.specs.Masks.{same_bytes}
use Rattle.row_indexes.specs.declared.moves.Move.{Move}
use Rattle.row_indexes.specs.Places.{Keepers, Places, owner_after, with_place}

-- the keepers, with the client as the keeper of the key where it is unique
abbrev pub with_keeper : Keepers → Move → ℕ → Keepers
with_keeper keepers m client j key = if m.unique && ((j == m.index) && same_bytes key m.key) then Some client else keepers j key

abbrev pub made : ℕ → ℕ → List Move → Places → Places
made client row [] places = places
made client row (m ∷ later) places = made client row later (with_place places m row (owner_after client m))

abbrev pub kept_after : ℕ → List Move → Keepers → Keepers
kept_after client [] keepers = keepers
kept_after client (m ∷ later) keepers = kept_after client later (with_keeper keepers m client)

-- the place that a row enters is empty or has the client's placeholder, and one that it leaves has the entry
abbrev pub HasPlace : ℕ → Bool → Option (Option ℕ) → Type 0
HasPlace client true place = (place ≡ None) ⊎ (place ≡ Some (Some client))
HasPlace client false place = place ≡ Some None

pub record CanMakeOne (client row : ℕ) (m : Move) (places : Places) (keepers : Keepers) : Type 0 where
  pub place : HasPlace client m.entered (places m.index m.key row)
  pub unkept : IsTrue m.unique → (other : ℕ) → keepers m.index m.key ≡ Some other → other ≡ client

abbrev pub CanMake : ℕ → ℕ → List Move → Places → Keepers → Type 0
CanMake client row [] places keepers = Unit {0}
CanMake client row (m ∷ later) places keepers = CanMakeOne client row m places keepers × CanMake client row later (with_place places m row (owner_after client m)) (with_keeper keepers m client)

-- An index: its entries and placeholders, and which client keeps each key. A place is a key and a row.
use Rattle.std.specs.Prelude.{◌≡◌, ◌≢◌, ◌⊎◌, ℕ, Bool, if◌then◌else◌, List, Option, Some, None}
use Rattle.std.specs.Option.{option_and_then}
use Rattle.std.specs.Ordering.{nat_cmp}
use Rattle.std.specs.Cmp.Lexicographic.{slice_cmp}
use Rattle.std.specs.FinMap as map
use Rattle.key_index.specs.declared.index.Node.{Node}
use Rattle.key_index.specs.Places.{without_keeper, without_left}

-- the keys, in the order of bytes
abbrev pub Keys : Type 0
Keys = map.FinMap (slice_cmp nat_cmp) Node

-- the content of a place: None if it is empty, Some None for an entry, Some (Some client) for a placeholder of the client
abbrev pub place_at : Keys → List ℕ → ℕ → Option (Option ℕ)
place_at index key row = option_and_then (λ node. map.get node.rows row) (map.get index key)

-- the client that keeps the key
abbrev pub keeper_of : Keys → List ℕ → Option ℕ
keeper_of index key = option_and_then (λ node. node.keeper) (map.get index key)

-- the client keeps some key
abbrev pub KeepsSome : Keys → ℕ → Type 0
KeepsSome index client = (key : List ℕ) × (keeper_of index key ≡ Some client)

abbrev pub IsEntry : Keys → List ℕ → ℕ → Type 0
IsEntry index key row = place_at index key row ≡ Some None

-- the place is empty, or has a placeholder of this client
abbrev pub MayEnter : Keys → ℕ → List ℕ → ℕ → Type 0
MayEnter index client key row = (place_at index key row ≡ None) ⊎ (place_at index key row ≡ Some (Some client))

abbrev pub NoOtherKeeps : Keys → ℕ → List ℕ → Type 0
NoOtherKeeps index client key = (other : ℕ) → keeper_of index key ≡ Some other → other ≡ client

-- the place has the given content, and the client keeps the key if it is unique; nothing else changes
pub record Puts (old : Keys) (client : ℕ) (key : List ℕ) (row : ℕ) (unique : Bool) (owner : Option ℕ) (new : Keys) : Type 0 where
  pub place : place_at new key row ≡ Some owner
  pub rows : (other : ℕ) → other ≢ row → place_at new key other ≡ place_at old key other
  pub places : (other : List ℕ) (at : ℕ) → other ≢ key → place_at new other at ≡ place_at old other at
  pub keeper : keeper_of new key ≡ (if unique then Some client else keeper_of old key)
  pub keepers : (other : List ℕ) → other ≢ key → keeper_of new other ≡ keeper_of old other

-- the place is empty and the key has this keeper; nothing else changes
pub record Forgets (old : Keys) (key : List ℕ) (row : ℕ) (keeper : Option ℕ) (new : Keys) : Type 0 where
  pub place : place_at new key row ≡ None
  pub rows : (other : ℕ) → other ≢ row → place_at new key other ≡ place_at old key other
  pub places : (other : List ℕ) (at : ℕ) → other ≢ key → place_at new other at ≡ place_at old other at
  pub keeper_is : keeper_of new key ≡ keeper
  pub keepers : (other : List ℕ) → other ≢ key → keeper_of new other ≡ keeper_of old other

-- no place and no keeper differs
pub record IsSame (old new : Keys) : Type 0 where
  pub places : (key : List ℕ) (row : ℕ) → place_at new key row ≡ place_at old key row
  pub keepers : (key : List ℕ) → keeper_of new key ≡ keeper_of old key

-- the client's placeholders are gone, and it keeps no key
pub record IsEnded (client : ℕ) (old new : Keys) : Type 0 where
  pub places : (key : List ℕ) (row : ℕ) → place_at new key row ≡ without_left client (place_at old key row)
  pub keepers : (key : List ℕ) → keeper_of new key ≡ without_keeper client (keeper_of old key)

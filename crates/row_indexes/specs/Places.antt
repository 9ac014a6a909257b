-- The places of several indexes, and moves of rows in them that are made and undone.
use Rattle.std.specs.Prelude.{◌≡◌, ℕ, ◌<◌, ◌==◌, ◌&&◌, Bool, if◌then◌else◌, List, [], ◌∷◌, Option, Some, None, IsTrue, slice_index_or}
use Rattle.std.specs.FinMap as map
use Rattle.abl_values.specs.Masks.{same_bytes}
use Rattle.key_index.specs.Index.{Keys, keeper_of, place_at}
use Rattle.row_indexes.specs.declared.moves.Move.{Move}

-- at an index, key and row: None if the place is empty, Some None for an entry, Some (Some client) for a placeholder of the client
abbrev pub Places : Type 0
Places = ℕ → List ℕ → ℕ → Option (Option ℕ)

-- who reserves a key of an index
abbrev pub Keepers : Type 0
Keepers = ℕ → List ℕ → Option ℕ

abbrev pub index_at : List Keys → ℕ → Keys
index_at indexes j = slice_index_or indexes j map.empty

abbrev pub places_of : List Keys → Places
places_of indexes j key row = place_at (index_at indexes j) key row

abbrev pub keepers_of : List Keys → Keepers
keepers_of indexes j key = keeper_of (index_at indexes j) key

-- ---- one move

abbrev pub is_place : Move → ℕ → ℕ → List ℕ → ℕ → Bool
is_place m row j key at = (j == m.index) && ((at == row) && same_bytes key m.key)

-- the places, with this content at the one of the move
abbrev pub with_place : Places → Move → ℕ → Option ℕ → Places
with_place places m row owner j key at = if is_place m row j key at then Some owner else places j key at

-- the content of its place before it and after it: an entry has no owner
abbrev pub owner_before : ℕ → Move → Option ℕ
owner_before client m = if m.entered then Some client else None

abbrev pub owner_after : ℕ → Move → Option ℕ
owner_after client m = if m.entered then None else Some client

-- ---- the moves of one change

-- the places, with these moves undone, the last of them first
abbrev pub undone : ℕ → ℕ → List Move → Places → Places
undone client row [] places = places
undone client row (m ∷ later) places = with_place (undone client row later places) m row (owner_before client m)

-- when the moves after it are undone, the place of each of them has what the move left there
abbrev pub CanUndo : ℕ → ℕ → List Move → Places → Type 0
CanUndo client row [] places = Unit {0}
CanUndo client row (m ∷ later) places = CanUndo client row later places × (undone client row later places m.index m.key row ≡ Some (owner_after client m))

-- the client reserves each unique key of them
abbrev pub AreKept : ℕ → List Move → Keepers → Type 0
AreKept client [] keepers = Unit {0}
AreKept client (m ∷ later) keepers = (IsTrue m.unique → keepers m.index m.key ≡ Some client) × AreKept client later keepers

-- they are moves in the first `count` indexes
abbrev pub AreWithin : ℕ → List Move → Type 0
AreWithin count [] = Unit {0}
AreWithin count (m ∷ later) = (m.index < count) × AreWithin count later

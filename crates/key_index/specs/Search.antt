-- Which place a search of an index finds.
use Rattle.std.specs.Prelude.{◌≡◌, ◌⊎◌, ℕ, ◌<◌, Bool, true, false, List, ◌++◌, Option, Some, None}
use Rattle.std.specs.Ordering.{nat_cmp}
use Rattle.std.specs.declared.cmp.Ordering.TheVariants.{Less}
use Rattle.std.specs.Cmp.Lexicographic.{slice_cmp}
use Rattle.database_protocol.specs.declared.row_order.Cursor.{Cursor}
use Rattle.key_index.specs.Index.{Keys, IsEntry}

-- the first bytes of the key are these
abbrev pub BeginsWith : List ℕ → List ℕ → Type 0
BeginsWith key prefix = (rest : List ℕ) × (key ≡ prefix ++ rest)

-- a key precedes another
abbrev pub IsKeyBefore : List ℕ → List ℕ → Type 0
IsKeyBefore key other = slice_cmp nat_cmp key other ≡ Less

-- a place precedes another: its key does, or the keys are equal and its row is less
abbrev pub IsBefore : List ℕ → ℕ → List ℕ → ℕ → Type 0
IsBefore key row other at = IsKeyBefore key other ⊎ ((key ≡ other) × (row < at))

-- the place lies beyond another: after it where the search goes forward, before it where it goes back
abbrev pub LiesBeyond : Bool → List ℕ → ℕ → List ℕ → ℕ → Type 0
LiesBeyond true key row other at = IsBefore other at key row
LiesBeyond false key row other at = IsBefore key row other at

abbrev pub IsBeyondCursor : Option Cursor → Bool → List ℕ → ℕ → Type 0
IsBeyondCursor None forward key row = Unit {0}
IsBeyondCursor (Some cursor) forward key row = LiesBeyond forward key row cursor.key cursor.row.0

-- the whole key lies beyond the cursor's
abbrev pub IsKeyBeyond : Option Cursor → Bool → List ℕ → Type 0
IsKeyBeyond None forward key = Unit {0}
IsKeyBeyond (Some cursor) true key = IsKeyBefore cursor.key key
IsKeyBeyond (Some cursor) false key = IsKeyBefore key cursor.key

-- an entry with the prefix, beyond the cursor
pub record IsFindable (index : Keys) (cursor : Option Cursor) (prefix : List ℕ) (forward : Bool) (key : List ℕ) (row : ℕ) : Type 0 where
  pub entry : IsEntry index key row
  pub begins : BeginsWith key prefix
  pub beyond : IsBeyondCursor cursor forward key row

-- the first of these in the direction of the search
pub record IsNext (index : Keys) (cursor : Option Cursor) (prefix : List ℕ) (forward : Bool) (found : Cursor) : Type 0 where
  pub findable : IsFindable index cursor prefix forward found.key found.row.0
  pub first : (key : List ℕ) (row : ℕ) → IsFindable index cursor prefix forward key row → ((key ≡ found.key) × (row ≡ found.row.0)) ⊎ LiesBeyond forward key row found.key found.row.0

abbrev pub FindsNone : Keys → Option Cursor → List ℕ → Bool → Type 0
FindsNone index cursor prefix forward = (key : List ℕ) (row : ℕ) → ¬ IsFindable index cursor prefix forward key row

-- the same of the entries under some keys alone
pub record IsNextAmong (Among : List ℕ → Type 0) (index : Keys) (cursor : Option Cursor) (prefix : List ℕ) (forward : Bool) (key : List ℕ) (row : ℕ) : Type 0 where
  pub among : Among key
  pub findable : IsFindable index cursor prefix forward key row
  pub first : (other : List ℕ) (at : ℕ) → Among other → IsFindable index cursor prefix forward other at → ((other ≡ key) × (at ≡ row)) ⊎ LiesBeyond forward other at key row

abbrev pub FindsNoneAmong : (List ℕ → Type 0) → Keys → Option Cursor → List ℕ → Bool → Type 0
FindsNoneAmong Among index cursor prefix forward = (key : List ℕ) (row : ℕ) → Among key → ¬ IsFindable index cursor prefix forward key row

-- The content of a place of an index: None for an entry, or the client whose placeholder it is.
use Rattle.std.specs.Prelude.{◌≡◌, ℕ, ◌<◌, Bool, false, ◌==◌, if◌then◌else◌, Option, Some, None}
use Rattle.std.specs.Ordering.{nat_cmp}
use Rattle.std.specs.FinMap as map

-- the rows under one key: at each row None for an entry, or the client of a placeholder
abbrev pub Rows : Type 0
Rows = map.FinMap nat_cmp (Option ℕ)

-- the client named here, if any, is this one
abbrev pub is_client : ℕ → Option ℕ → Bool
is_client client None = false
is_client client (Some other) = other == client

-- what is left of a place when a client ends: its placeholders go
abbrev pub without_left : ℕ → Option (Option ℕ) → Option (Option ℕ)
without_left client None = None
without_left client (Some None) = Some None
without_left client (Some (Some other)) = if other == client then None else Some (Some other)

-- what is left of a keeper when a client ends
abbrev pub without_keeper : ℕ → Option ℕ → Option ℕ
without_keeper client None = None
without_keeper client (Some other) = if other == client then None else Some other

-- the place has a placeholder
abbrev pub IsLeft : Option (Option ℕ) → Type 0
IsLeft place = (client : ℕ) × (place ≡ Some (Some client))

-- some row has a placeholder
abbrev pub HasLeft : Rows → Type 0
HasLeft rows = (row : ℕ) × IsLeft (map.get rows row)

-- the row has an entry
abbrev pub HasEntry : Rows → ℕ → Type 0
HasEntry rows row = map.get rows row ≡ Some None

-- the row is above a given one, where one is given
abbrev pub IsAbove : Option ℕ → ℕ → Type 0
IsAbove None row = Unit {0}
IsAbove (Some from) row = from < row

-- the row is below a given one, where one is given
abbrev pub IsBelow : Option ℕ → ℕ → Type 0
IsBelow None row = Unit {0}
IsBelow (Some from) row = row < from

-- The page of a name.
use Rattle.std.specs.Prelude.{◌≡◌, ℕ, List, map, Some, slice_get}
use Rattle.std.specs.Borrow.{Bor}
use Rattle.std.specs.Char.{to_ascii_lowercase}

-- the name at this place is that name, in capitals or not
abbrev pub IsPlaceOf : List (Bor (List ℕ)) → List ℕ → ℕ → Type 0
IsPlaceOf names name place = (known : Bor (List ℕ)) × (slice_get names place ≡ Some known) × (map to_ascii_lowercase known.now ≡ map to_ascii_lowercase name)

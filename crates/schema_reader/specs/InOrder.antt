-- The fields of a table as the code has them, and what their names must be to be found.
use Rattle.std.specs.Prelude.{◌≡◌, ◌≤◌, ℕ, suc, false, nat_le, if◌then◌else◌, List, [], ◌∷◌, length}
use Rattle.std.specs.List.{All}
use Rattle.abl_values.specs.declared.schema.FieldDef.{FieldDef}
use Rattle.abl_base.specs.declared.limits.TheConstants.{MAX_NAME_BYTES}
use Rattle.schema_reader.specs.declared.meaning.OrderedField.{OrderedField}
use Rattle.schema_reader.specs.Meaning.{Ordered}
use Rattle.abl_values.specs.Sound.{has_twice}

abbrev pub as_ordered : OrderedField → Ordered
as_ordered f = record { order = f.order; field = f.field }

abbrev pub field_of : OrderedField → FieldDef
field_of f = f.field

-- how many fields from the front on have a lesser ORDER
abbrev pub place_of : ℕ → List OrderedField → ℕ
place_of order [] = 0
place_of order (f ∷ fs) = if nat_le order f.order then 0 else suc (place_of order fs)

-- names of at most 32 bytes
abbrev pub AreShort : List (List ℕ) → Type 0
AreShort names = All (λ n. length n ≤ MAX_NAME_BYTES) names

-- no two names are the same, in any case
abbrev pub AreApart : List (List ℕ) → Type 0
AreApart names = has_twice names ≡ false

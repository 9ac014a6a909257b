-- Worked examples, each computed from the definitions.
use Rattle.std.specs.Prelude.{◌≡◌, refl, ℕ, true, [], ◌∷◌, codes, Option, Some, None}
use Rattle.abl_base.specs.declared.value.Value.TheVariants.{Logical, Unknown}
use Rattle.abl_base.specs.declared.value.Kind.TheVariants.{Logical as Truth}
use Rattle.stored_fields.specs.declared.field.StoredField.{StoredField}
use Rattle.stored_fields.specs.Rows.{dropped_in, row_in, stored_in, stored_values}

-- a LOGICAL field, `?` in rows of before it was added
truth : Option ℕ → StoredField
truth live = record { name = codes "paid"; kind = Some Truth; initial = Unknown; live = live }

-- one that is yes in rows of before it was added
yes : Option ℕ → StoredField
yes live = record { name = codes "known"; kind = Some Truth; initial = Logical true; live = live }

-- a row that ends before a field has its initial value there
a_short_row : stored_in (truth (Some 0) ∷ yes (Some 1) ∷ []) (0 ∷ []) ≡ Some (Unknown ∷ Logical true ∷ [])
unfolding stored_in truth yes
a_short_row = refl

-- no row ends inside a field
a_row_cut_short : stored_in (truth (Some 0) ∷ yes (Some 1) ∷ []) (0 ∷ 1 ∷ []) ≡ None
unfolding stored_in truth yes
a_row_cut_short = refl

-- bytes after the last field are no row
a_long_row : stored_in (truth (Some 0) ∷ []) (0 ∷ 0 ∷ []) ≡ None
unfolding stored_in truth
a_long_row = refl

-- a dropped field is read and left out
a_dropped_field : row_in 1 (truth None ∷ yes (Some 0) ∷ []) (1 ∷ 1 ∷ 0 ∷ []) ≡ Some (Unknown ∷ [])
unfolding stored_in truth yes
a_dropped_field = refl

-- fields may have other numbers than places
another_order : row_in 2 (truth (Some 1) ∷ yes (Some 0) ∷ []) (0 ∷ 1 ∷ 1 ∷ []) ≡ Some (Logical true ∷ Unknown ∷ [])
unfolding stored_in truth yes
another_order = refl

-- a dropped field is written as `?`
a_written_row : stored_values (truth None ∷ yes (Some 0) ∷ []) (Logical true ∷ []) ≡ Unknown ∷ Logical true ∷ []
unfolding truth yes
a_written_row = refl

one_dropped : dropped_in (truth None ∷ yes (Some 0) ∷ []) ≡ 1
unfolding truth yes
one_dropped = refl

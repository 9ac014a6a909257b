-- A stored table after a field was added or dropped.
use Rattle.std.specs.Prelude.{◌-◌, ℕ, zero, suc, ◌==◌, nat_lt, if◌then◌else◌, List, [], ◌∷◌, ◌++◌, length, map, Option, Some, None}
use Rattle.abl_base.specs.declared.value.Value.TheVariants.{Unknown}
use Rattle.abl_values.specs.declared.schema.FieldDef.{FieldDef}
use Rattle.abl_values.specs.declared.schema.IndexDef.{IndexDef}
use Rattle.abl_values.specs.declared.schema.KeyPart.{KeyPart}
use Rattle.abl_values.specs.declared.schema.TableDef.{TableDef}
use Rattle.stored_fields.specs.declared.field.StoredField.{StoredField}
use Rattle.stored_schema.specs.Laid.{stored_as}

-- the fields of a table, and how its rows are stored
pub record StoredTable : Type 0 where
  pub fields : List FieldDef
  pub stored : List StoredField

-- one field more: the last of the table, and the last that is stored
abbrev pub with_field : FieldDef → StoredTable → StoredTable
with_field f t = record { fields = t.fields ++ f ∷ []; stored = t.stored ++ stored_as (length t.fields) f ∷ [] }

-- the elements but the n-th
abbrev pub without : {X : Type 0} → ℕ → List X → List X
without n [] = []
without zero (x ∷ xs) = xs
without (suc n) (x ∷ xs) = x ∷ without n xs

-- the number of another element without the n-th
abbrev pub number_after : ℕ → ℕ → ℕ
number_after n k = if nat_lt n k then k - 1 else k

-- a live number where field `n` is dropped
abbrev pub live_after : ℕ → Option ℕ → Option ℕ
live_after n None = None
live_after n (Some k) = if k == n then None else Some (number_after n k)

-- the field with this live number; without one its initial value is not kept
abbrev pub with_number : Option ℕ → StoredField → StoredField
with_number None f = record f { live = None; initial = Unknown }
with_number (Some k) f = record f { live = Some k }

-- a stored field where field `n` is dropped: it stays in its place
abbrev pub stored_after : ℕ → StoredField → StoredField
stored_after n f = with_number (live_after n f.live) f

-- the table without field `n`
abbrev pub without_field : ℕ → StoredTable → StoredTable
without_field n t = record { fields = without n t.fields; stored = map (stored_after n) t.stored }

-- ---- the table with its indexes

-- one field more
abbrev pub table_with : FieldDef → TableDef → TableDef
table_with f t = record t { fields = t.fields ++ f ∷ [] }

-- a component where field `n` is dropped
abbrev pub part_after : ℕ → KeyPart → KeyPart
part_after n p = record p { field = number_after n p.field }

abbrev pub index_after : ℕ → IndexDef → IndexDef
index_after n i = record i { parts = map (part_after n) i.parts }

-- one field less; the components of indexes keep their fields
abbrev pub table_without : ℕ → TableDef → TableDef
table_without n t = record t { fields = without n t.fields; indexes = map (index_after n) t.indexes }

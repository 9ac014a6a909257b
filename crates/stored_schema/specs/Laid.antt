-- A schema as it is stored at creation: all fields are live, in the order of the schema.
use Rattle.std.specs.Prelude.{ℕ, ◌+◌, List, [], ◌∷◌, map, Some}
use Rattle.abl_values.specs.declared.schema.FieldDef.{FieldDef}
use Rattle.abl_values.specs.declared.schema.TableDef.{TableDef}
use Rattle.stored_fields.specs.declared.field.StoredField.{StoredField}

-- a field as it is stored
abbrev pub stored_as : ℕ → FieldDef → StoredField
stored_as n f = record { name = f.name; kind = f.kind; initial = f.initial; live = Some n }

-- these fields, with the numbers from `n` on
abbrev pub laid_from : ℕ → List FieldDef → List StoredField
laid_from n [] = []
laid_from n (f ∷ fs) = stored_as n f ∷ laid_from (n + 1) fs

-- the fields of each table
abbrev pub laid : List TableDef → List (List StoredField)
laid tables = map (λ (t : TableDef). laid_from 0 t.fields) tables

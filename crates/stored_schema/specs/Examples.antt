-- Worked examples, each computed from the definitions.
use Rattle.std.specs.Prelude.{◌≡◌, refl, ℕ, true, false, List, [], ◌∷◌, codes, Some, None}
use Rattle.abl_base.specs.declared.value.Kind.TheVariants.{Character, Logical as Truth}
use Rattle.abl_base.specs.declared.value.Value.TheVariants.{Text, Unknown}
use Rattle.abl_values.specs.declared.schema.FieldDef.{FieldDef}
use Rattle.abl_values.specs.declared.schema.IndexDef.{IndexDef}
use Rattle.abl_values.specs.declared.schema.TableDef.{TableDef}
use Rattle.abl_values.specs.Schema.{SchemaData}
use Rattle.abl_values.specs.Texts.{export_text}
use Rattle.stored_fields.specs.declared.field.StoredField.{StoredField}
use Rattle.stored_schema.specs.Agreement.{agree}
use Rattle.stored_schema.specs.Laid.{stored_as}
use Rattle.stored_schema.specs.Seen.{number_in}
use Rattle.stored_schema.specs.Text.{stored_lines, stored_text}

name : FieldDef
name = record { name = codes "Name"; kind = Some Character; initial = Text []; mandatory = true; mask = [] }

paid : FieldDef
paid = record { name = codes "paid"; kind = Some Truth; initial = Unknown; mandatory = false; mask = [] }

by_name : ℕ → IndexDef
by_name field = record { name = codes "i"; unique = true; parts = record { field = field; descending = false } ∷ [] }

table : List FieldDef → ℕ → TableDef
table fields n = record { name = codes "t"; fields = fields; indexes = by_name n ∷ []; primary = Some 0 }

schema : TableDef → SchemaData
schema t = record { tables = t ∷ []; sequences = []; order = true ∷ [] }

old : StoredField
old = record { name = codes "Old"; kind = Some Truth; initial = Unknown; live = None }

-- a dropped field has a line of its own at its place
a_dropped_field : stored_text (schema (table (name ∷ []) 0)) ((old ∷ stored_as 0 name ∷ []) ∷ [])
    ≡ codes "T t\nD old LOGICAL\nF name CHARACTER M \"\"\nI i U P name A\n"
unfolding stored_text stored_lines schema table by_name name old export_text
a_dropped_field = refl

-- fields in another order agree, and an index names them by their names
another_order : agree (schema (table (name ∷ paid ∷ []) 0)) (schema (table (paid ∷ name ∷ []) 1)) ≡ true
unfolding agree schema table by_name name paid
another_order = refl

-- the index is of another field
another_component : agree (schema (table (name ∷ paid ∷ []) 0)) (schema (table (paid ∷ name ∷ []) 0)) ≡ false
unfolding agree schema table by_name name paid
another_component = refl

-- one has a field more
a_field_more : agree (schema (table (name ∷ paid ∷ []) 0)) (schema (table (name ∷ []) 0)) ≡ false
unfolding agree schema table by_name name paid
a_field_more = refl

-- MANDATORY counts
not_mandatory : agree (schema (table (name ∷ []) 0)) (schema (table (record name { mandatory = false } ∷ []) 0)) ≡ false
unfolding agree schema table by_name name
not_mandatory = refl

-- the number of the first stored field in the other order
the_other_number : number_in (name ∷ paid ∷ []) (paid ∷ name ∷ []) 0 ≡ 1
unfolding name paid
the_other_number = refl

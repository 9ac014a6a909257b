-- A schema, and how the rows of its tables are stored.
use Rattle.std.specs.Prelude.{◌≡◌, ◌<◌, ◌≤◌, ℕ, List, [], length, slice_index_or, Option, Some, None, All, IsTrue, option_to_list}
use Rattle.std.specs.List.{flat_map, range_with_len}
use Rattle.abl_base.specs.declared.limits.TheConstants.{MAX_FIELDS}
use Rattle.abl_base.specs.declared.value.Value.TheVariants.{Unknown}
use Rattle.abl_values.specs.declared.schema.FieldDef.{FieldDef}
use Rattle.abl_values.specs.Held.{IsHeld}
use Rattle.abl_values.specs.Names.{is_name}
use Rattle.abl_values.specs.Schema.{SchemaData, fields_of, no_field}
use Rattle.abl_values.specs.Sound.{IsSound}
use Rattle.stored_fields.specs.declared.field.StoredField.{StoredField}
use Rattle.stored_schema.specs.Text.{stored_text}

-- a schema, the stored fields of each of its tables, and the text by which a database keeps both
pub record Stored : Type 0 where
  pub schema : SchemaData
  pub fields : List (List StoredField)
  pub text : List ℕ

-- the stored fields of the table with this number
abbrev pub stored_of : Stored → ℕ → List StoredField
stored_of s t = slice_index_or s.fields t []

-- ---- one table

-- the numbers of the live fields, in stored order
abbrev pub live_numbers : List StoredField → List ℕ
live_numbers fs = flat_map (λ (f : StoredField). option_to_list f.live) fs

-- the stored field is this field of the table
pub record IsLiveAs (field : FieldDef) (f : StoredField) : Type 0 where
  pub name : f.name ≡ field.name
  pub kind : f.kind ≡ field.kind
  pub initial : f.initial ≡ field.initial

-- a dropped field has its name and its kind, by which old rows are read; its initial value is not kept
pub record IsDropped (f : StoredField) : Type 0 where
  pub name : IsTrue (is_name f.name)
  pub initial : f.initial ≡ Unknown

-- the stored field is the field with its number, or a dropped one
abbrev pub IsStoredAs : List FieldDef → Option ℕ → StoredField → Type 0
IsStoredAs fields None f = IsDropped f
IsStoredAs fields (Some n) f = IsLiveAs (slice_index_or fields n no_field) f

-- a table of these fields is stored so: its live fields are all of these, in order
pub record AreStoredAs (fields : List FieldDef) (fs : List StoredField) : Type 0 where
  pub few : length fs ≤ MAX_FIELDS
  pub numbers : live_numbers fs ≡ range_with_len 0 (length fields)
  pub each : All (λ (f : StoredField). IsStoredAs fields f.live f) fs

-- ---- a schema as a database has it: the fields of each table in stored order, and the stored text of that
pub record IsOwn (s : Stored) : Type 0 where
  pub sound : IsSound s.schema
  pub held : IsHeld s.schema
  pub as_many : length s.fields ≡ length s.schema.tables
  pub stored : (t : ℕ) → t < length s.fields → AreStoredAs (fields_of s.schema t) (stored_of s t)
  pub text : s.text ≡ stored_text s.schema s.fields

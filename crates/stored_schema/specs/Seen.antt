-- A stored schema as a given schema sees it: places and text stay, and each live field has the number of its name in the given schema.
use Rattle.std.specs.Prelude.{◌≡◌, ◌+◌, ◌<◌, ◌≤◌, ℕ, List, length, map, slice_index_or, Some, unwrap_or, option_map, IsTrue}
use Rattle.abl_base.specs.declared.limits.TheConstants.{MAX_FIELDS}
use Rattle.abl_values.specs.declared.schema.FieldDef.{FieldDef}
use Rattle.abl_values.specs.declared.schema.KeyPart.{KeyPart}
use Rattle.abl_values.specs.declared.schema.IndexDef.{IndexDef}
use Rattle.abl_values.specs.declared.schema.TableDef.{TableDef}
use Rattle.abl_values.specs.Held.{index_names}
use Rattle.abl_values.specs.Schema.{SchemaData, field_kinds, field_names, fields_of, no_field, no_index, number_of_name}
use Rattle.abl_values.specs.Sound.{IsSound}
use Rattle.stored_fields.specs.Changes.{relived}
use Rattle.stored_fields.specs.Rows.{AreStoredFor}
use Rattle.stored_schema.specs.Agreement.{agree}
use Rattle.stored_schema.specs.Stored.{IsOwn, Stored, stored_of}

-- the number that field `n` of one table has in another: that of its name. A number past the fields goes past those of the other, so that no two have one
abbrev pub number_in : List FieldDef → List FieldDef → ℕ → ℕ
number_in given own n = unwrap_or (number_of_name 0 (field_names given) (slice_index_or own n no_field).name) (length given + n)

-- a component of an index, with the number that its field has in the given table
abbrev pub part_in : List FieldDef → List FieldDef → KeyPart → KeyPart
part_in given own p = record p { field = number_in given own p.field }

-- an index of the given table is this one of the stored one: its UNIQUE, and its components in order
pub record IsIndexOf (given own : TableDef) (j i : IndexDef) : Type 0 where
  pub unique : i.unique ≡ j.unique
  pub parts : i.parts ≡ map (part_in given.fields own.fields) j.parts

-- the given table has this index of the stored one, under its name
abbrev pub HasIndex : TableDef → TableDef → IndexDef → Type 0
HasIndex given own j =
    (n : ℕ) × (number_of_name 0 (index_names given.indexes) j.name ≡ Some n) × (n < length given.indexes) × IsIndexOf given own j (slice_index_or given.indexes n no_index)

-- the given schema agrees with the one that is stored, and sees it so
pub record IsSeen (given : SchemaData) (own : Stored) (s : Stored) : Type 0 where
  pub agrees : IsTrue (agree given own.schema)
  pub schema : s.schema ≡ given
  pub text : s.text ≡ own.text
  pub as_many : length s.fields ≡ length own.fields
  pub fields : (t : ℕ) → t < length own.fields → stored_of s t ≡ relived (option_map (number_in (fields_of given t) (fields_of own.schema t))) (stored_of own t)

-- what every stored schema has: its stored fields hold the rows of its schema, and it is one that a database has, seen by that schema
pub record IsLaid (s : Stored) : Type 0 where
  pub sound : IsSound s.schema
  pub as_many : length s.fields ≡ length s.schema.tables
  pub few : (t : ℕ) → t < length s.fields → length (stored_of s t) ≤ MAX_FIELDS
  pub holds : (t : ℕ) → t < length s.fields → AreStoredFor (field_kinds (fields_of s.schema t)) (stored_of s t)
  pub own : ∥ ((own : Stored) × IsOwn own × IsSeen s.schema own s) ∥₁

-- Schemas as their canonical text has them, and which of them a `Schema` holds.
use Rattle.std.specs.Prelude.{◌≡◌, ◌<◌, ◌≤◌, ◌^◌, false, List, [], map, length, Option, All, IfSome, ℕ}
use Rattle.abl_base.specs.declared.limits.TheConstants.{MAX_FIELDS, MAX_SEQUENCES}
use Rattle.abl_values.specs.declared.schema.FieldDef.{FieldDef}
use Rattle.abl_values.specs.declared.schema.IndexDef.{IndexDef}
use Rattle.abl_values.specs.declared.schema.TableDef.{TableDef}
use Rattle.abl_values.specs.declared.schema.SequenceDef.{SequenceDef}
use Rattle.abl_values.specs.Order.{folded}
use Rattle.abl_values.specs.Schema.{SchemaData, field_names, table_names}
use Rattle.abl_values.specs.Sound.{has_twice, IsSound, IsSoundField, IsSoundIndex, IsSoundSequence, IsSoundTable}

-- ---- what a `Schema` holds

abbrev pub index_names : List IndexDef → List (List ℕ)
index_names = map (λ i. i.name)

abbrev pub sequence_names : List SequenceDef → List (List ℕ)
sequence_names = map (λ q. q.name)

-- no two indexes have one name, in any case, and the number of the primary one has 16 bits
pub record IsHeldTable (t : TableDef) : Type 0 where
  pub indexes : has_twice (index_names t.indexes) ≡ false
  pub primary : IfSome t.primary (λ n. n < 2 ^ 16)

-- no two tables, no two sequences and no two indexes of a table have one name, in any case, as in each schema of a
-- file, and there are no more sequences than a file may have. A `Schema` finds its items by their names, so it can hold
-- no two of one name
pub record IsHeld (s : SchemaData) : Type 0 where
  pub tables : has_twice (table_names s.tables) ≡ false
  pub sequences : has_twice (sequence_names s.sequences) ≡ false
  pub few : length s.sequences ≤ MAX_SEQUENCES
  pub indexes : All IsHeldTable s.tables

-- ---- what the text has of a schema: names in small letters and no masks

abbrev pub told_field : FieldDef → FieldDef
told_field f = record f { name = folded f.name; mask = [] }

abbrev pub told_index : IndexDef → IndexDef
told_index i = record i { name = folded i.name }

abbrev pub told_sequence : SequenceDef → SequenceDef
told_sequence q = record q { name = folded q.name }

abbrev pub told_table : TableDef → TableDef
told_table t = record { name = folded t.name; fields = map told_field t.fields; indexes = map told_index t.indexes; primary = t.primary }

abbrev pub told_schema : SchemaData → SchemaData
told_schema s = record { tables = map told_table s.tables; sequences = map told_sequence s.sequences; order = s.order }

-- a sound field as the text has it
pub record IsWrittenField (f : FieldDef) : Type 0 where
  pub sound : IsSoundField f
  pub told : told_field f ≡ f

-- the fields of a table as the text has them
pub record AreWrittenFields (fs : List FieldDef) : Type 0 where
  pub each : All IsWrittenField fs
  pub apart : has_twice (field_names fs) ≡ false
  pub few : length fs ≤ MAX_FIELDS

-- fields whose names are found
pub record AreFields (fs : List FieldDef) : Type 0 where
  pub each : All IsSoundField fs
  pub apart : has_twice (field_names fs) ≡ false
  pub few : length fs ≤ MAX_FIELDS

-- an index of a table with this number of fields, as the text has it
pub record IsWrittenIndex (fields : ℕ) (i : IndexDef) : Type 0 where
  pub sound : IsSoundIndex fields i
  pub told : told_index i ≡ i

-- the indexes of such a table, and which of them is the primary one
pub record AreWrittenIndexes (fields : ℕ) (is : List IndexDef) (primary : Option ℕ) : Type 0 where
  pub each : All (IsWrittenIndex fields) is
  pub apart : has_twice (index_names is) ≡ false
  pub within : IfSome primary (λ n. n < length is)
  pub small : IfSome primary (λ n. n < 2 ^ 16)

pub record IsWrittenTable (t : TableDef) : Type 0 where
  pub sound : IsSoundTable t
  pub held : IsHeldTable t
  pub few : length t.fields ≤ MAX_FIELDS
  pub told : told_table t ≡ t

pub record IsWrittenSequence (q : SequenceDef) : Type 0 where
  pub sound : IsSoundSequence q
  pub told : told_sequence q ≡ q

pub record IsWritten (s : SchemaData) : Type 0 where
  pub sound : IsSound s
  pub held : IsHeld s
  pub told : told_schema s ≡ s

-- Which schemas are sound: they are within the limits, their names are names, their numbers and values are within
-- their ranges, and what refers to another part finds it.
use Rattle.std.specs.Prelude.{◌≡◌, ◌<◌, ℕ, Bool, false, not, ◌||◌, List, [], ◌∷◌, length, count_by, All, IsTrue, IfSome}
use Rattle.std.specs.List.{list_any}
use Rattle.abl_values.specs.declared.schema.FieldDef.{FieldDef}
use Rattle.abl_values.specs.declared.schema.IndexDef.{IndexDef}
use Rattle.abl_values.specs.declared.schema.TableDef.{TableDef}
use Rattle.abl_values.specs.declared.schema.SequenceDef.{SequenceDef}
use Rattle.abl_values.specs.Arithmetic.{fits_bits}
use Rattle.abl_values.specs.Fit.{IsOfField}
use Rattle.abl_values.specs.Names.{is_name}
use Rattle.abl_values.specs.Schema.{SchemaData, IsWithinLimits, field_names, same_name}

-- the name is one of these, in any case
abbrev pub is_among : List ℕ → List (List ℕ) → Bool
is_among name names = list_any (λ n. same_name n name) names

-- a name occurs twice, in any case
abbrev pub has_twice : List (List ℕ) → Bool
has_twice [] = false
has_twice (name ∷ names) = is_among name names || has_twice names

-- a field with a name, and an initial value that it holds
pub record IsSoundField (f : FieldDef) : Type 0 where
  pub name : IsTrue (is_name f.name)
  pub initial : IsOfField f.kind f.initial

-- an index with a name, whose components are fields of a table with this number of fields
pub record IsSoundIndex (fields : ℕ) (i : IndexDef) : Type 0 where
  pub name : IsTrue (is_name i.name)
  pub parts : All (λ p. p.field < fields) i.parts

-- a table with a name: no two of its fields have one name, in any case, and its primary index is one of its own
pub record IsSoundTable (t : TableDef) : Type 0 where
  pub name : IsTrue (is_name t.name)
  pub fields : All IsSoundField t.fields
  pub apart : has_twice (field_names t.fields) ≡ false
  pub indexes : All (IsSoundIndex (length t.fields)) t.indexes
  pub primary : IfSome t.primary (λ n. n < length t.indexes)

-- a sequence with a name, and numbers of 64 bits
pub record IsSoundSequence (q : SequenceDef) : Type 0 where
  pub name : IsTrue (is_name q.name)
  pub initial : IsTrue (fits_bits 63 q.initial)
  pub increment : IsTrue (fits_bits 63 q.increment)

-- tables and sequences, and an order with one place for each of them
pub record IsSound (s : SchemaData) : Type 0 where
  pub limits : IsWithinLimits s.tables
  pub tables : All IsSoundTable s.tables
  pub sequences : All IsSoundSequence s.sequences
  pub table_places : count_by (λ b. b) s.order ≡ length s.tables
  pub sequence_places : count_by not s.order ≡ length s.sequences

-- What the slots of a database hold: a schema, the values of its sequences, and rows.
use Rattle.std.specs.Prelude.{◌≡◌, ◌⊎◌, ℕ, ◌<◌, ◌≤◌, false, List, length, map, replicate, Some, None, ℤ, IsTrue}
use Rattle.abl_base.specs.declared.limits.TheConstants.{MAX_KEY_BYTES}
use Rattle.abl_values.specs.Rows.{fragments_of}
use Rattle.abl_values.specs.Schema.{SchemaData, canonical_text}
use Rattle.abl_values.specs.Sound.{IsSound}
use Rattle.database_meaning.specs.declared.state.StoredRow.{StoredRow}
use Rattle.database_meaning.specs.declared.state.Key.{Key}
use Rattle.database_meaning.specs.Setting.{HasIndex, key_in, unique_keys, has_key}
use Rattle.row_store.specs.Changes.{RowsById}
use Rattle.row_fragments.specs.Fragments.{StoredBytes, ends, kind_in, row_at, chain_of}
pub use Rattle.row_fragments.specs.Chains.{IsOfOneRow}
use Rattle.slot_rows.specs.Decoded.{decoded, AreRead}
use Rattle.sequence_slots.specs.Values.{HoldValues, values_in}
use Rattle.database_layout.specs.contents.Chains.{IsChain, counted}

abbrev pub zeros : List ℕ
zeros = replicate 256 0

-- how many slots the text of the schema takes
abbrev pub text_slots : SchemaData → ℕ
text_slots schema = fragments_of (length (canonical_text schema))

-- the slots from 1 on hold the text of the schema, and those after it up to 4,999 nothing
pub record HoldSchema (slots : ℕ → List ℕ) (schema : SchemaData) : Type 0 where
  pub few : text_slots schema ≤ 4999
  pub text : IsChain slots 3 3 0 (counted 1 (text_slots schema)) (canonical_text schema)
  pub rest : (slot : ℕ) → text_slots schema < slot → slot < 5000 → slots slot ≡ zeros

-- the slots that belong to nothing: 0, and those from 5,009 to 8,191
pub record AreUnused (slots : ℕ → List ℕ) : Type 0 where
  pub zero : slots 0 ≡ zeros
  pub between : (slot : ℕ) → 5008 < slot → slot < 8192 → slots slot ≡ zeros

-- wherever a row begins, its chain holds a row of a table of the schema, and each slot for rows is free or in one chain
pub record AreRows (schema : SchemaData) (slots : ℕ → List ℕ) : Type 0 where
  pub read : AreRead schema slots
  pub chains : (row : ℕ) (stored : StoredBytes) → row_at slots row ≡ Some stored → IsChain slots 1 2 stored.table (chain_of slots row) stored.bytes
  pub each : (slot : ℕ) → ends slot ≡ false → (kind_in (slots slot) ≡ 0) ⊎ IsOfOneRow slots slot

-- no key of a row is longer than a key may be, and no two rows have a unique key in common
pub record HaveKeys (schema : SchemaData) (rows : RowsById) : Type 0 where
  pub short : (row : ℕ) (stored : StoredRow) (index : ℕ) → rows row ≡ Some stored → HasIndex schema stored.table index → length (key_in schema stored.table index stored.values) ≤ MAX_KEY_BYTES
  pub apart : (row other : ℕ) (key : Key) → IsTrue (has_key (unique_keys schema (rows row)) key) → IsTrue (has_key (unique_keys schema (rows other)) key) → row ≡ other

-- the slots hold this schema, values for its sequences, and rows
pub record AreContents (schema : SchemaData) (slots : ℕ → List ℕ) : Type 0 where
  pub sound : IsSound schema
  pub text : HoldSchema slots schema
  pub sequences : HoldValues slots (values_in (length schema.sequences) slots)
  pub unused : AreUnused slots
  pub rows : AreRows schema slots
  pub keys : HaveKeys schema (decoded schema slots)

-- the initial values of the sequences
abbrev pub initial_values : SchemaData → List ℤ
initial_values schema = map (λ sequence. sequence.initial) schema.sequences

-- the slots of a new database: the schema, the initial values of its sequences, and nothing else
pub record AreNew (schema : SchemaData) (slots : ℕ → List ℕ) : Type 0 where
  pub text : HoldSchema slots schema
  pub values : HoldValues slots (initial_values schema)
  pub unused : AreUnused slots
  pub free : (slot : ℕ) → ends slot ≡ false → slots slot ≡ zeros

-- the contents of a database
pub record Contents : Type 0 where
  pub text : List ℕ
  pub rows : RowsById
  pub values : List ℤ

abbrev pub contents_in : SchemaData → (ℕ → List ℕ) → Contents
contents_in schema slots = record { text = canonical_text schema; rows = decoded schema slots; values = values_in (length schema.sequences) slots }

-- the contents of a new database
abbrev pub new_contents : SchemaData → Contents
new_contents schema = record { text = canonical_text schema; rows = λ row. None; values = initial_values schema }

-- The state of a store of rows with indexes, and the state of a new one.
use Rattle.std.specs.Prelude.{◌≡◌, ℕ, true, false, List, map, None, ℤ, IsTrue}
use Rattle.std.specs.Coded.{Coded-set, coded_bool}
use Rattle.std.specs.List.{AllByRecursion-prop}
use Rattle.storage.specs.Slots.{SlotState}
use Rattle.abl_values.specs.Arithmetic.{fits_bits}
use Rattle.abl_values.specs.Schema.{SchemaData}
use Rattle.row_store.specs.Rows.{IsObservable, RowState, no_transaction}
use Rattle.key_index.specs.Index.{Keys}
use Rattle.row_indexes.specs.Places.{keepers_of}
use Rattle.row_keys.specs.Reserved.{reserved_at}
use Rattle.sequence_slots.specs.Values.{Have64Bits}
use Rattle.slot_rows.specs.declared.open.Open.{Open}
use Rattle.slot_rows.specs.State.{Reserved, state_of}

-- the state of the rows, with the keys that the indexes have reserved
abbrev pub store_state : SchemaData → List Keys → List ℤ → SlotState → List Open → RowState
store_state schema indexes sequences s opens = state_of schema (reserved_at schema (keepers_of indexes)) sequences s opens

-- the initial values of the sequences
abbrev pub initial_values : SchemaData → List ℤ
initial_values schema = map (λ sequence. sequence.initial) schema.sequences

-- no transaction is begun, no row is there or committed, and each sequence has its initial value
pub record IsNewStore (s : RowState) (schema : SchemaData) : Type 0 where
  pub schema_is : s.schema ≡ schema
  pub fine : s.failed ≡ false
  pub idle : (c : ℕ) → s.transaction c ≡ no_transaction
  pub rows : IsObservable s → (k : ℕ) → s.rows k ≡ None
  pub empty : (k : ℕ) → s.committed k ≡ None
  pub sequences : s.sequences ≡ initial_values schema

-- no client reserves a key
abbrev pub no_reserved : Reserved
no_reserved c key = false

-- values have 64 bits in one way
pub Have64Bits-prop : (values : List ℤ) → IsProp (Have64Bits values)
Have64Bits-prop values = AllByRecursion-prop (λ value. IsTrue (fits_bits 63 value)) (λ value. Coded-set coded_bool (fits_bits 63 value) true) values

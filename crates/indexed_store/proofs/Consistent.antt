-- What the trait asks of every store.
use Rattle.std.proofs.Common.{◌≡◌, ℕ, true, false, List, Some, ℤ, sym, ◌∙◌}
use Rattle.storage.specs.Slots.{SlotState}
use Rattle.abl_values.specs.Schema.{SchemaData}
use Rattle.row_store.specs.Rows.{IsConsistent}
use Rattle.key_index.specs.Index.{Keys}
use Rattle.row_indexes.specs.Places.{keepers_of}
use Rattle.row_keys.specs.Reserved.{reserved_at}
use Rattle.row_keys.proofs.Kept.{reserved_none}
use Rattle.slot_rows.specs.declared.open.Open.{Open}
use Rattle.slot_rows.specs.Opens.{log_in, touched_in}
use Rattle.slot_rows.specs.Stored.{IsStored}
use Rattle.slot_rows.proofs.Consistent.{consistent}
use Rattle.indexed_store.specs.State.{store_state}

-- a client without a transaction has reserved no key
pub none_reserved : (schema : SchemaData) (keys : List Keys) (s : SlotState) → ((c j : ℕ) (key : List ℕ) → keepers_of keys j key ≡ Some c → (s.transaction c).begun ≡ true)
    → (c : ℕ) → (s.transaction c).begun ≡ false → reserved_at schema (keepers_of keys) c ≡ (λ key. false)
none_reserved schema keys s begun c idle = reserved_none schema (keepers_of keys) c (λ j key is. let clash : true ≡ false = sym (begun c j key is) ∙ idle in cc)

pub store_consistent : (schema : SchemaData) (keys : List Keys) (sequences : List ℤ) (s : SlotState) (opens : List Open) → IsStored schema s (log_in opens) (touched_in opens)
    → ((c j : ℕ) (key : List ℕ) → keepers_of keys j key ≡ Some c → (s.transaction c).begun ≡ true) → IsConsistent (store_state schema keys sequences s opens)
store_consistent schema keys sequences s opens stored begun = consistent schema (reserved_at schema (keepers_of keys)) sequences s opens stored (none_reserved schema keys s begun)

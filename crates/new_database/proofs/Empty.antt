-- The contents of a new database are sound, and a store without rows was opened with them.
use Rattle.std.proofs.Common.{◌≡◌, ◌∙◌, ◌*◌, ℕ, ℤ, List, [], take, refl, sym, ap, subst, arith}
use Rattle.std.proofs.Math.Seq.{drop-nil}
use Rattle.std.specs.Prelude.{None, Option, false}
use Rattle.std.specs.FinMap.{get-empty}
use Rattle.std.specs.Ordering.{nat_cmp}
use Rattle.std.proofs.lemmas.List.{length-map}
use Rattle.abl_values.specs.Schema.{SchemaData}
use Rattle.abl_values.specs.declared.schema.SequenceDef.{SequenceDef}
use Rattle.database_meaning.specs.declared.state.Key.{Key}
use Rattle.database_meaning.specs.declared.state.StoredRow.{StoredRow}
use Rattle.database_meaning.specs.Setting.{has_key, unique_keys}
use Rattle.database_meaning.specs.Traces.{IsSoundContents}
use Rattle.row_store.specs.Rows.{RowState, no_transaction}
use Rattle.db_core.specs.Opening.{IsOpened}
use Rattle.new_database.specs.slots.Mem.{at_rest}
use Rattle.new_database.specs.slots.Sparse.{zeros}
use Rattle.byte_rows.specs.Places.{HoldNothing}
use Rattle.sequence_slots.specs.Values.{HoldValues, slot_bytes}
use Rattle.new_database.specs.Contents.{new_contents}

-- no row has no key
no_key : (schema : SchemaData) (k : Key) → has_key (unique_keys schema None) k ≡ false
unfolding unique_keys
no_key schema k = refl

pub sound : (schema : SchemaData) (clients : ℕ) → IsSoundContents (record { schema = schema; clients = clients }) (new_contents schema)
sound schema clients =
    record {
      ascending = tt;
      rows = tt;
      unique = λ r q k has also.
          let none = subst (λ (row : Option StoredRow). has_key (unique_keys schema row) k ≡ false) (sym (get-empty nat_cmp r)) (no_key schema k) in absurd (cc (none, has));
      sequences = length-map schema.sequences (λ (s : SequenceDef). s.initial);
    }

pub is_opened : (rows : RowState) (schema : SchemaData) → ((c : ℕ) → rows.transaction c ≡ no_transaction) → ((k : ℕ) → rows.committed k ≡ None) → IsOpened rows (new_contents schema)
is_opened rows schema idle empty = record { idle = idle; committed = λ observable k. empty k ∙ sym (get-empty nat_cmp k) }

-- slots of zeros hold no sequence value
pub hold_no_value : HoldValues at_rest.committed []
unfolding zeros
hold_no_value = record { few = omega arith; whole = tt; each = λ i lt. sym (ap (λ (values : List ℤ). slot_bytes (take 30 values)) (drop-nil (30 * i))) }

-- slots of zeros hold no row
pub hold_nothing : HoldNothing at_rest.reads
unfolding zeros
hold_nothing = λ k here. refl

-- The state after a refusal.
use Rattle.std.proofs.Common.{◌≡◌, ℕ, ◌&&◌, not, Bool, true, false, List, Err, IsErrOf, IsTrue, ℤ, refl, ap, ◌∙◌}
use Rattle.std.proofs.Math.Path.{fun_ext}
use Rattle.storage.specs.Slots.{SlotState, Transaction, HasCause, IsReadable, KeepsCommitted, Rests}
use Rattle.storage.specs.declared.slots.SlotFault.TheVariants.{Disk as SlotDisk, TxFull, NoMemory as SlotMemory}
use Rattle.abl_values.specs.Schema.{SchemaData}
use Rattle.byte_rows.specs.declared.fault.ChainFault.{ChainFault}
use Rattle.byte_rows.specs.declared.fault.ChainFault.TheVariants.{Full, Slot}
use Rattle.byte_rows.specs.Rows.{of_slots}
use Rattle.row_store.specs.Changes.{RowsById}
use Rattle.row_store.specs.Rows.{AfterError, Fails, RowState, RowTransaction}
use Rattle.row_store.specs.Rows as rows
use Rattle.slot_rows.specs.declared.open.Open.{Open}
use Rattle.slot_rows.specs.Commits.{FailsValues}
use Rattle.slot_rows.specs.Decoded.{decoded}
use Rattle.slot_rows.specs.Opens.{open_in}
use Rattle.slot_rows.specs.State.{Reserved, row_error, rows_if, state_of, transaction_of}
use Rattle.slot_rows.proofs.Changed.{same_rows}

abbrev made : SchemaData → List ℤ → Bool → Bool → RowsById → RowsById → (ℕ → RowTransaction) → RowState
made schema sequences observable failed present committed transaction =
    record { observable = observable; failed = failed; schema = schema; rows = present; committed = committed; sequences = sequences; transaction = transaction }

pub and_parts : (a b : Bool) → IsTrue (a && not b) → IsTrue a × (b ≡ false)
and_parts true true e = absurd (cc e)
and_parts true false e = (e, refl)
and_parts false b e = absurd (cc e)

-- the rows are as they were where the slots read so
pub rows_rest : (schema : SchemaData) (s t : SlotState) → t.observable ≡ s.observable → t.failed ≡ s.failed → (IsReadable s → t.reads ≡ s.reads)
    → rows_if (t.observable && not t.failed) (decoded schema t.reads) ≡ rows_if (s.observable && not s.failed) (decoded schema s.reads)
rows_rest schema s t seen failed reads =
    let known : (t.observable && not t.failed) ≡ (s.observable && not s.failed) = ap (λ (v : Bool). v && not t.failed) seen ∙ ap (λ (v : Bool). s.observable && not v) failed in
    same_rows (s.observable && not s.failed) (t.observable && not t.failed) (decoded schema s.reads) (decoded schema t.reads) known (λ is. ap (decoded schema) (reads (and_parts s.observable s.failed is)))

module _ (schema : SchemaData) (reserved : Reserved) (sequences : List ℤ) (s t : SlotState) (a b : List Open) (same : (c : ℕ) → open_in b c ≡ open_in a c) where
  transactions : (begun : (c : ℕ) → (t.transaction c).begun ≡ (s.transaction c).begun)
      → (state_of schema reserved sequences t b).transaction ≡ (state_of schema reserved sequences s a).transaction
  transactions begun = fun_ext (λ c. ap (λ (v : Bool). transaction_of v (reserved c) (open_in b c)) (begun c) ∙ ap (transaction_of (s.transaction c).begun (reserved c)) (same c))

  committed_same : KeepsCommitted s t → rows_if t.observable (decoded schema t.committed) ≡ rows_if s.observable (decoded schema s.committed)
  committed_same keeps = same_rows s.observable t.observable (decoded schema s.committed) (decoded schema t.committed) keeps.observable (λ is. ap (decoded schema) (keeps.committed is))

  -- where nothing has changed
  pub state_rests : Rests s t → t.failed ≡ s.failed → state_of schema reserved sequences t b ≡ state_of schema reserved sequences s a
  state_rests r failed =
      let present = rows_rest schema s t r.keeps.observable failed r.reads in
      ap (λ (v : Bool). made schema sequences v t.failed (rows_if (t.observable && not t.failed) (decoded schema t.reads)) (rows_if t.observable (decoded schema t.committed)) (state_of schema reserved sequences t b).transaction) r.keeps.observable
      ∙ (ap (λ (v : Bool). made schema sequences s.observable v (rows_if (t.observable && not t.failed) (decoded schema t.reads)) (rows_if t.observable (decoded schema t.committed)) (state_of schema reserved sequences t b).transaction) failed
      ∙ (ap (λ (f : RowsById). made schema sequences s.observable s.failed f (rows_if t.observable (decoded schema t.committed)) (state_of schema reserved sequences t b).transaction) present
      ∙ (ap (λ (f : RowsById). made schema sequences s.observable s.failed (rows_if (s.observable && not s.failed) (decoded schema s.reads)) f (state_of schema reserved sequences t b).transaction) (committed_same r.keeps)
      ∙ ap (λ (f : ℕ → RowTransaction). made schema sequences s.observable s.failed (rows_if (s.observable && not s.failed) (decoded schema s.reads)) (rows_if s.observable (decoded schema s.committed)) f)
      (transactions (λ c. ap (λ (f : ℕ → Transaction). (f c).begun) r.transaction)))))

  state_fails : KeepsCommitted s t → t.failed ≡ true → ((c : ℕ) → (t.transaction c).begun ≡ (s.transaction c).begun) → Fails (state_of schema reserved sequences s a) (state_of schema reserved sequences t b)
  state_fails keeps failed begun = record {
    observable = keeps.observable;
    failed = failed;
    schema = refl;
    committed = λ is. committed_same keeps;
    sequences = λ is. refl;
    transaction = transactions begun;
  }

  -- the slots refused the call
  pub after_refusal : {T : Type 0} {U : Type 0} (fault : ChainFault) → KeepsCommitted s t → ((c : ℕ) → (t.transaction c).begun ≡ (s.transaction c).begun) → ((fault ≡ Slot SlotDisk → ⊥) → Rests s t) → HasCause {T = U} s t (of_slots (Err fault))
      → AfterError {T = T} (state_of schema reserved sequences s a) (state_of schema reserved sequences t b) (Err (row_error fault))
  after_refusal (Slot SlotDisk) keeps begun rests cause = record { memory = λ e. absurd (cc e); disk = λ e. state_fails keeps (cause.failed refl) begun }
  after_refusal (Slot TxFull) keeps begun rests cause = record { memory = λ e. state_rests (rests (λ e. cc e)) (cause.stays (λ e. cc e)); disk = λ e. absurd (cc e) }
  after_refusal (Slot SlotMemory) keeps begun rests cause = record { memory = λ e. state_rests (rests (λ e. cc e)) (cause.stays (λ e. cc e)); disk = λ e. absurd (cc e) }
  after_refusal Full keeps begun rests cause = record { memory = λ e. state_rests (rests (λ e. cc e)) (cause.stays (λ e. cc e)); disk = λ e. absurd (cc e) }

  pub cause_of : {T : Type 0} {U : Type 0} (fault : ChainFault) → HasCause {T = U} s t (of_slots (Err fault)) → rows.HasCause {T = T} s.faults t.faults (state_of schema reserved sequences s a) (Err (row_error fault))
  cause_of (Slot SlotDisk) cause = record { later = cause.later; disk = λ e. cause.disk refl }
  cause_of (Slot TxFull) cause = record { later = cause.later; disk = λ e. absurd (cc e) }
  cause_of (Slot SlotMemory) cause = record { later = cause.later; disk = λ e. absurd (cc e) }
  cause_of Full cause = record { later = cause.later; disk = λ e. absurd (cc e) }

  -- a commit failed: the disk alone refuses one
  pub after_failure : {T U : Type 0} (client : ℕ) (values : List ℤ) (fault : ChainFault) → FailsValues s t client values → HasCause {T = U} s t (of_slots (Err fault))
      → (IsErrOf {T = U} (Err fault) Full → ⊥) × ((IsErrOf {T = U} (of_slots (Err fault)) SlotMemory → ⊥) × (IsErrOf {T = U} (of_slots (Err fault)) TxFull → ⊥))
      → AfterError {T = T} (state_of schema reserved sequences s a) (state_of schema reserved sequences t b) (Err (row_error fault))
  after_failure client values (Slot SlotDisk) fails cause only = record {
    memory = λ e. absurd (cc e);
    disk = λ e. record {
      observable = fails.observable;
      failed = cause.failed refl;
      schema = refl;
      committed = λ is. same_rows s.observable t.observable (decoded schema s.committed) (decoded schema t.committed) fails.observable (λ is. ap (decoded schema) (fails.committed is));
      sequences = λ is. refl;
      transaction = transactions fails.begun;
    };
  }
  after_failure client values (Slot TxFull) fails cause only = absurd (only.1.1 refl)
  after_failure client values (Slot SlotMemory) fails cause only = absurd (only.1.0 refl)
  after_failure client values Full fails cause only = absurd (only.0 refl)

-- What holds of slots outside those for rows, and of commits in doubt, after each call.
use Rattle.std.proofs.Common.{◌≡◌, ◌≢◌, inl, inr, ℕ, Bool, true, false, List, IsTrue, Result, Ok, Err, OnOk, OnErr, IsErrOf, ℤ, refl, sym, ap, ◌∙◌, subst}
use Rattle.std.proofs.lemmas.Bool.{cases_eq}
use Rattle.storage.specs.Slots.{SlotState, Transaction, Begins, Ends, GoesBack, HasCause, IsReadable, KeepsCommitted, Rests}
use Rattle.storage.specs.declared.slots.SlotFault.TheVariants.{Disk as SlotDisk, TxFull, NoMemory as SlotMemory}
use Rattle.row_fragments.specs.Calls.{Looked, Touched}
use Rattle.row_fragments.specs.Fragments.{StoredBytes, ends}
use Rattle.byte_rows.specs.declared.fault.ChainFault.{ChainFault}
use Rattle.byte_rows.specs.declared.fault.ChainFault.TheVariants.{Full, Slot}
use Rattle.byte_rows.specs.Rows.{ChangesRow, of_slots}
use Rattle.slot_rows.specs.Commits.{CommitsValues}
use Rattle.slot_rows.specs.Quiet.{IsQuiet}
use Rattle.slot_rows.proofs.Counting.{failed_before}
use Rattle.slot_rows.proofs.Histories.{clash}
use Rattle.std.specs.Prelude.{Option}

-- no commit is in doubt where what is committed stays
certain_keeps : (s t : SlotState) → (t.failed ≡ false → s.failed ≡ false) → KeepsCommitted s t → IsQuiet s → IsReadable t → (k : ℕ) → t.doubt k ≡ t.committed k
certain_keeps s t before keeps q readable k =
    let was : IsReadable s = (subst (λ (b : Bool). IsTrue b) keeps.observable readable.0, before readable.1) in
    ap (λ (f : ℕ → List ℕ). f k) (keeps.doubt was.0) ∙ (q.certain was k ∙ sym (ap (λ (f : ℕ → List ℕ). f k) (keeps.committed was.0)))

-- the transaction has written no slot outside those for rows
abbrev IsClear : Transaction → Type 0
IsClear x = ((k : ℕ) → ends k ≡ true → x.written k ≡ false) × (x.low ≡ 0)

-- one client's transaction is another
quiet_but : (s t : SlotState) (client : ℕ) → (t.failed ≡ false → s.failed ≡ false) → ((c : ℕ) → c ≢ client → t.transaction c ≡ s.transaction c)
    → (t.failed ≡ false → (t.transaction client).begun ≡ true → IsClear (t.transaction client)) → (IsReadable t → (k : ℕ) → t.doubt k ≡ t.committed k) → IsQuiet s → IsQuiet t
quiet_but s t client before others own certain q = record {
  written = λ fine c k outside begun. elim (cases_eq c client) [
    | inl is ↦ ap (λ (d : ℕ). (t.transaction d).written k) is ∙ (own fine (sym (ap (λ (d : ℕ). (t.transaction d).begun) is) ∙ begun)).0 k outside
    | inr ne ↦ ap (λ (x : Transaction). x.written k) (others c ne) ∙ q.written (before fine) c k outside (sym (ap (λ (x : Transaction). x.begun) (others c ne)) ∙ begun)
  ];
  low = λ fine c begun. elim (cases_eq c client) [
    | inl is ↦ ap (λ (d : ℕ). (t.transaction d).low) is ∙ (own fine (sym (ap (λ (d : ℕ). (t.transaction d).begun) is) ∙ begun)).1
    | inr ne ↦ ap (λ (x : Transaction). x.low) (others c ne) ∙ q.low (before fine) c (sym (ap (λ (x : Transaction). x.begun) (others c ne)) ∙ begun)
  ];
  certain = certain;
}

pub quiet_rests : (s t : SlotState) → (t.failed ≡ false → s.failed ≡ false) → Rests s t → IsQuiet s → IsQuiet t
quiet_rests s t before r q =
    quiet_but s t 0 before (λ c ne. ap (λ (f : ℕ → Transaction). f c) r.transaction)
    (λ fine begun.
    let same : t.transaction 0 ≡ s.transaction 0 = ap (λ (f : ℕ → Transaction). f 0) r.transaction in
    let was : (s.transaction 0).begun ≡ true = sym (ap (λ (x : Transaction). x.begun) same) ∙ begun in
    (λ k outside. ap (λ (x : Transaction). x.written k) same ∙ q.written (before fine) 0 k outside was, ap (λ (x : Transaction). x.low) same ∙ q.low (before fine) 0 was))
    (certain_keeps s t before r.keeps q) q

pub quiet_failed : (t : SlotState) → t.failed ≡ true → IsQuiet t
quiet_failed t failed = record {
  written = λ fine c k outside begun. clash t.failed failed fine;
  low = λ fine c begun. clash t.failed failed fine;
  certain = λ readable k. clash t.failed failed readable.1;
}

pub quiet_looked : {T : Type 0} (s t : SlotState) (at_s at_t : ℕ → (ℕ → List ℕ) → Type 0) (r : Result T ChainFault) → Looked s t at_s at_t (of_slots r) → IsQuiet s → IsQuiet t
quiet_looked s t at_s at_t r l q = quiet_rests s t (failed_before s t (of_slots r) l.cause) l.rests q

pub quiet_begins : (s t : SlotState) (client : ℕ) (r : Result Unit ChainFault) → OnOk r (Begins s t client) → OnErr r (Rests s t) → HasCause s t (of_slots r) → IsQuiet s → IsQuiet t
quiet_begins s t client (Ok v) begins rests cause q =
    let before = failed_before s t (of_slots {T = Unit {0}} (Ok v)) cause in
    quiet_but s t client before begins.transaction.others (λ fine begun. (λ k outside. begins.transaction.written k, begins.transaction.low)) (certain_keeps s t before begins.keeps q) q
quiet_begins s t client (Err fault) begins rests cause q = quiet_rests s t (failed_before s t (of_slots {T = Unit {0}} (Err fault)) cause) rests q

pub quiet_back : (s t : SlotState) (client mark : ℕ) (r : Result Unit ChainFault) → (s.transaction client).begun ≡ true → OnOk r (GoesBack s t client mark) → OnErr r (Rests s t) → HasCause s t (of_slots r) → IsQuiet s → IsQuiet t
quiet_back s t client mark (Ok v) begun back rests cause q =
    let before = failed_before s t (of_slots {T = Unit {0}} (Ok v)) cause in
    quiet_but s t client before back.transaction.others
    (λ fine now. (λ k outside. back.transaction.written k ∙ q.written (before fine) client k outside begun, back.transaction.low ∙ q.low (before fine) client begun)) (certain_keeps s t before back.keeps q) q
quiet_back s t client mark (Err fault) begun back rests cause q = quiet_rests s t (failed_before s t (of_slots {T = Unit {0}} (Err fault)) cause) rests q

pub quiet_ends : (s t : SlotState) (client : ℕ) → Ends s t client → IsQuiet s → IsQuiet t
quiet_ends s t client ends q =
    let before : t.failed ≡ false → s.failed ≡ false = λ fine. sym ends.failed ∙ fine in
    quiet_but s t client before ends.transaction.others (λ fine begun. clash (t.transaction client).begun begun ends.transaction.begun) (certain_keeps s t before ends.keeps q) q

pub quiet_changes : (V : Type 0) (s t : SlotState) (at_s at_t : ℕ → (ℕ → List ℕ) → Type 0) (client row : ℕ) (to : Option StoredBytes) (r : Result Unit ChainFault) → (s.transaction client).begun ≡ true
    → OnOk r ((slots : List ℕ) × ChangesRow s t client row slots to × V) → Touched s t at_s at_t client (of_slots r) → ((IsErrOf r (Slot SlotDisk) → ⊥) → OnErr r (Rests s t)) → IsQuiet s → IsQuiet t
quiet_changes V s t at_s at_t client row to (Ok v) begun ok touched refused q =
    let before = failed_before s t (of_slots {T = Unit {0}} (Ok v)) touched.cause in
    let changes = ok.1 in
    quiet_but s t client before touched.others
    (λ fine now. (
      λ k outside. changes.wrote.written k (λ there. clash (ends k) outside (changes.inside k there)) ∙ q.written (before fine) client k outside begun,
      changes.wrote.low ∙ q.low (before fine) client begun,
    )) (certain_keeps s t before touched.keeps q) q
quiet_changes V s t at_s at_t client row to (Err (Slot SlotDisk)) begun ok touched refused q = quiet_failed t (touched.cause.failed refl)
quiet_changes V s t at_s at_t client row to (Err (Slot TxFull)) begun ok touched refused q = quiet_rests s t (λ fine. sym (touched.cause.stays (λ e. cc e)) ∙ fine) (refused (λ e. cc e)) q
quiet_changes V s t at_s at_t client row to (Err (Slot SlotMemory)) begun ok touched refused q = quiet_rests s t (λ fine. sym (touched.cause.stays (λ e. cc e)) ∙ fine) (refused (λ e. cc e)) q
quiet_changes V s t at_s at_t client row to (Err Full) begun ok touched refused q = quiet_rests s t (λ fine. sym (touched.cause.stays (λ e. cc e)) ∙ fine) (refused (λ e. cc e)) q

pub quiet_commits : (s t : SlotState) (client : ℕ) (values : List ℤ) → t.failed ≡ s.failed → CommitsValues s t client values → IsQuiet s → IsQuiet t
quiet_commits s t client values same commits q =
    quiet_but s t client (λ fine. sym same ∙ fine) commits.transaction.others (λ fine begun. clash (t.transaction client).begun begun commits.transaction.begun)
    (λ readable k. ap (λ (f : ℕ → List ℕ). f k) (commits.doubt (subst (λ (b : Bool). IsTrue b) commits.observable readable.0))) q

-- a store that is opened
pub quiet_opened : (s : SlotState) → ((c : ℕ) → (s.transaction c).begun ≡ false) → (IsReadable s → (k : ℕ) → s.doubt k ≡ s.committed k) → IsQuiet s
quiet_opened s idle certain = record {
  written = λ fine c k outside begun. clash (s.transaction c).begun begun (idle c);
  low = λ fine c begun. clash (s.transaction c).begun begun (idle c);
  certain = certain;
}

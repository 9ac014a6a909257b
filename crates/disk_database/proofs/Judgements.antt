-- A disk that is judged before its first write, and what is known of it after its recovery.
use Rattle.std.proofs.Common.{◌≡◌, ◌⊎◌, ◌≤◌, ◌<◌, ℕ, Bool, true, List, refl, sym, ap, ◌∙◌, subst, arith, inl, inr}
use Rattle.std.proofs.lemmas.Bool.{cases_lt}
use Rattle.std.specs.Prelude.{IsTrue}
use Rattle.row_store.specs.Rows.{RowState, durable_of}
use Rattle.storage.specs.Disk.{IsImage, Stays}
use Rattle.storage.specs.declared.slots.Undo.{Undo}
use Rattle.storage.specs.Slots.{IsReadable, SlotState, Transaction}
use Rattle.abl_values.specs.Schema.{SchemaData, canonical_text}
use Rattle.abl_values.specs.Sound.{IsSound}
use Rattle.bi_log.specs.Lengths.{StayShort}
use Rattle.bi_recovery.specs.declared.open_fault.OpenFault.{OpenFault}
use Rattle.bi_recovery.specs.declared.open_fault.OpenFault.TheVariants as fault
use Rattle.bi_recovery.specs.Reopening.{IsReadAs}
use Rattle.byte_rows.specs.Still.{Still}
use Rattle.log_meaning.specs.steps.Steps.{Image}
use Rattle.storage.specs.faults.Faults.{Rose}
use Rattle.log_meaning.specs.Images.{Recovers}
use Rattle.slot_txn.specs.logged.Stops.{StayRecoverable}
use Rattle.indexed_store.specs.Opened.{CanOpen, HoldStore, IsOpenedStore}
use Rattle.indexed_store.specs.declared.open_error.OpenError.{OpenError}
use Rattle.indexed_store.specs.declared.open_error.OpenError.TheVariants as error
use Rattle.recovered_view.specs.View.{IsAtRest}
use Rattle.slot_rows.specs.Chained.{StayChains}
use Rattle.slot_rows.specs.Decoded.{decoded}
use Rattle.slot_rows.specs.Durable.{durable_in}
use Rattle.database_layout.specs.stored_text.Held.{HoldText}
use Rattle.disk_database.specs.Answers.{IsRefused, is_judgement}
use Rattle.disk_database.specs.Images.{IsGivenBack}
use Rattle.disk_database.specs.Inside.{AreJudged, AreOpened, IsSlotRefusal, of_error, of_fault, of_late_fault}
use Rattle.disk_database.specs.Parts.{LeaveUnused}
use Rattle.disk_database.specs.declared.refusals.OpenRefusal.{OpenRefusal}
use Rattle.disk_database.specs.declared.refusals.OpenRefusal.TheVariants.{NotCreated, SchemaDiffers, Disk, NoMemory}
use Rattle.disk_database.proofs.Recognitions.{none_stored, readable_then}

-- ---- slots in memory

module _ (s : SlotState) (stop : ℕ → (ℕ → List ℕ) → Type 0) (rest : IsAtRest s stop) where
  -- they may be opened
  pub can_at_rest : CanOpen s
  can_at_rest = record { idle = rest.idle; clean = rest.clean; fine = rest.fine; settled = λ readable. rest.settled; certain = λ readable. rest.certain }

  pub readable_at_rest : IsReadable s
  readable_at_rest = (rest.observable, rest.fine)

  -- no stop is known
  pub stays_at_rest : StayChains stop s.since
  stays_at_rest m slots st = absurd (rest.no_stops m slots st)

-- the reason stays, or becomes out of memory
pub slot_refusal_still : (schema : SchemaData) (s : SlotState) (refusal given : OpenRefusal) → (given ≡ refusal) ⊎ (given ≡ NoMemory) → IsSlotRefusal schema s refusal → IsSlotRefusal schema s given
slot_refusal_still schema s refusal given (inl is) why = subst (IsSlotRefusal schema s) (sym is) why
slot_refusal_still schema s refusal given (inr is) why = subst (IsSlotRefusal schema s) (sym is) tt

module _ (schema : SchemaData) (a b : SlotState) (at_a at_b : ℕ → (ℕ → List ℕ) → Type 0) (still : Still a b at_a at_b) where
  -- why no store was opened over slots that hold the text
  pub refused_by_store : IsSound schema → (IsReadable a → HoldText a.reads (canonical_text schema)) → (e : OpenError) → (e ≡ error.Unsound → IsTrue b.observable → ¬ HoldStore schema b.reads) → IsSlotRefusal schema a (of_error e)
  refused_by_store sound text error.Disk unsound = tt
  refused_by_store sound text error.NoMemory unsound = tt
  refused_by_store sound text error.Unsound unsound = λ readable.
      none_stored schema a.reads (text readable) sound (λ store. unsound refl (readable_then a b at_a at_b still readable).0 (subst (HoldStore schema) (sym (still.rests.reads readable)) store))

  -- a store over slots that were only read
  pub store_still : (r : RowState) → IsReadable a → IsOpenedStore r schema a → IsOpenedStore r schema b
  store_still r readable opened = record {
    schema_is = opened.schema_is;
    fine = opened.fine;
    observable = opened.observable ∙ sym still.rests.keeps.observable;
    idle = opened.idle;
    rows = subst (λ (x : ℕ → List ℕ). IsTrue b.observable → r.rows ≡ decoded schema x) (sym same) (λ known. opened.rows readable.0);
    durable = subst (λ (x : ℕ → List ℕ). IsTrue b.observable → durable_of r ≡ durable_in schema x) (sym same) (λ known. opened.durable readable.0);
    count = opened.count;
    held = subst (λ (x : ℕ → List ℕ). IsTrue b.observable → HoldStore schema x) (sym same) (λ known. opened.held readable.0);
  }
    where
      same : b.reads ≡ a.reads
      same = still.rests.reads readable

-- the store of slots in memory that were tested and then opened
pub judged_after : (schema : SchemaData) (r : RowState) (a b d : SlotState) (at_a at_b at_d : ℕ → (ℕ → List ℕ) → Type 0) → IsAtRest a at_a → Still a b at_a at_b → Still b d at_b at_d → IsOpenedStore r schema b
    → (IsReadable a → HoldText a.reads (canonical_text schema)) → (IsReadable a → LeaveUnused schema a.reads) → AreJudged r schema d × (d.reads ≡ a.reads)
judged_after schema r a b d at_a at_b at_d rest tested entered opened text unused = (
  record {
    store = store_still schema b d at_b at_d entered r readable_b opened;
    readable = readable_then b d at_b at_d entered readable_b;
    idle = λ client. ap (λ (t : ℕ → Transaction). (t client).begun) (entered.rests.transaction ∙ tested.rests.transaction) ∙ rest.idle client;
    text = subst (λ (x : ℕ → List ℕ). HoldText x (canonical_text schema)) (sym same) (text readable_a);
    unused = subst (LeaveUnused schema) (sym same) (unused readable_a);
  },
  same,
)
  where
    readable_a : IsReadable a
    readable_a = readable_at_rest a at_a rest

    readable_b : IsReadable b
    readable_b = readable_then a b at_a at_b tested readable_a

    same : d.reads ≡ a.reads
    same = entered.rests.reads readable_b ∙ tested.rests.reads readable_a

-- ---- reasons

pub fault_of_disk : (f : OpenFault) → of_fault f ≡ Disk → f ≡ fault.Disk
fault_of_disk fault.NotCreated is = absurd (cc is)
fault_of_disk fault.Disk is = refl
fault_of_disk fault.NoMemory is = absurd (cc is)

pub late_fault_of_disk : (f : OpenFault) → of_late_fault f ≡ Disk → f ≡ fault.Disk
late_fault_of_disk fault.NotCreated is = absurd (cc is)
late_fault_of_disk fault.Disk is = refl
late_fault_of_disk fault.NoMemory is = absurd (cc is)

-- a fault of the recovery is no judgement
pub late_fault_judges_not : (f : OpenFault) → is_judgement (of_late_fault f) ≡ true → ⊥
late_fault_judges_not fault.NotCreated is = cc is
late_fault_judges_not fault.Disk is = cc is
late_fault_judges_not fault.NoMemory is = cc is

-- what is no judgement needs no reason
pub refused_unjudged : (schema : SchemaData) (observable : Bool) (seen : Image) (refusal : OpenRefusal) → (is_judgement refusal ≡ true → ⊥) → IsRefused schema observable seen refusal
refused_unjudged schema observable seen NotCreated not = absurd (not refl)
refused_unjudged schema observable seen (SchemaDiffers stored given) not = absurd (not refl)
refused_unjudged schema observable seen Disk not = tt
refused_unjudged schema observable seen NoMemory not = tt

-- ---- the disk before and after it was judged

module _ (was_observable observable : Bool) (was_seen seen : Image) (was now : ℕ) (before after : ℕ → Image → Type 0) (stays : Stays was_observable observable was_seen seen was now before after) where
  pub known_then : IsTrue was_observable → IsTrue observable
  known_then known = subst (λ (b : Bool). IsTrue b) (sym stays.same_observable) known

  -- the disk that was judged has the images of the call
  pub image_before : (image : Image) → after now image → before was image
  image_before image there = subst (λ (m : ℕ). before m image) stays.moment (stays.nothing_else now image there)

  pub recovers_then : (slots : ℕ → List ℕ) → (IsTrue was_observable → Recovers was_seen slots) → IsTrue observable → Recovers seen slots
  recovers_then slots recovers known =
      let known_before : IsTrue was_observable = subst (λ (b : Bool). IsTrue b) stays.same_observable known in
      subst (λ (x : Image). Recovers x slots) (sym (stays.same known_before)) (recovers known_before)

  pub read_then : (area generation : ℕ) (slots : List Undo) → (IsTrue was_observable → IsReadAs was_seen area generation slots) → IsTrue observable → IsReadAs seen area generation slots
  read_then area generation slots read known =
      let known_before : IsTrue was_observable = subst (λ (b : Bool). IsTrue b) stays.same_observable known in
      subst (λ (x : Image). IsReadAs x area generation slots) (sym (stays.same known_before)) (read known_before)

  pub opened_before : (s : SlotState) (stop : ℕ → (ℕ → List ℕ) → Type 0) → AreOpened s stop observable seen now after → AreOpened s stop was_observable was_seen was before
  opened_before s stop opened = record {
    same_observable = opened.same_observable ∙ stays.same_observable;
    since = opened.since ∙ stays.moment;
    certain = λ known. opened.certain (known_then known);
    recovered = λ known. subst (λ (x : Image). Recovers x s.committed) (stays.same known) (opened.recovered (known_then known));
    come = λ m slots st. let old = opened.come m slots st in (old.0, image_before old.0 old.1, old.2);
  }

  pub back_before : (last_observable : Bool) (last : ℕ) (left : ℕ → Image → Type 0) → IsGivenBack observable last_observable now last after left → IsGivenBack was_observable last_observable was last before left
  back_before last_observable last left back = record {
    same_observable = back.same_observable ∙ stays.same_observable;
    later = let is = stays.moment in let later = back.later in omega (arith, is, later);
    images = λ m image slots from there recovers.
        let is = stays.moment in
        let old = back.images m image slots (omega (arith, is, from)) there recovers in (old.0, image_before old.0 old.1, old.2);
    recoverable = subst (StayRecoverable left) stays.moment back.recoverable;
    short = subst (StayShort left) stays.moment back.short;
  }

  -- so far nothing was written
  pub back_untouched : ((m : ℕ) (image : Image) → after m image → IsImage observable now m image) → IsGivenBack was_observable observable was now before after
  back_untouched known = record {
    same_observable = stays.same_observable;
    later = let is = stays.moment in omega (arith, is);
    images = λ m image slots from there recovers. (image, stays.nothing_else was image (at_first m image from there), recovers);
    recoverable = λ all m image from there. all image (at_first m image from there);
    short = λ all m image from there. all image (at_first m image from there);
  }
    where
      at_first : (m : ℕ) (image : Image) → was ≤ m → after m image → after was image
      at_first m image from there =
          let past = (known m image there).past in
          let is = stays.moment in
          let same : m ≡ was = omega (arith, from, past, is) in
          subst (λ (k : ℕ). after k image) same there

-- a count that never fell before it rose
pub rose_before : (first was now : ℕ) → first ≤ was → was ≤ now → Rose was now → Rose first now
rose_before first was now le later (inl more) = inl (omega (arith, le, more))
rose_before first was now le later (inr last) = by_count (cases_lt first was)
  where
    by_count : (first < was) ⊎ (was ≤ first) → Rose first now
    by_count (inl less) = inl (omega (arith, less, later))
    by_count (inr same) = inr (omega (arith, same, last))

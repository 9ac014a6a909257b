-- What holds between two calls holds after each call.
use Rattle.std.proofs.Common.{◌≡◌, ℕ, true, false, List, length, sym, ap, ◌∙◌, subst}
use Rattle.storage.specs.Slots.{SlotState, Transaction, IsReadable, Rests, wrote}
use Rattle.abl_values.specs.Schema.{SchemaData}
use Rattle.row_fragments.proofs.Composes.{readable_on}
use Rattle.slot_rows.specs.declared.log.Undone.{Undone}
use Rattle.slot_rows.specs.Chained.{HoldRows}
use Rattle.slot_rows.specs.Decoded.{decoded}
use Rattle.slot_rows.specs.Mixes.{IsMixed, rows_of, slots_of, writes_of}
use Rattle.slot_rows.specs.Stored.{AreMarks, AreWeighed, IsStored, changes_of, mark_in, mark_or}

-- nothing has changed
pub stored_rests : (schema : SchemaData) (s t : SlotState) (log : ℕ → List Undone) (touched : ℕ → List ℕ) → Rests s t → t.failed ≡ s.failed → IsStored schema s log touched → IsStored schema t log touched
stored_rests schema s t log touched r same stored = record {
  marks = λ fine c. subst (λ (f : ℕ → Transaction). AreMarks 0 (log c) (length (f c).undo)) (sym r.transaction) (stored.marks (sym same ∙ fine) c);
  first = λ fine c. ap (λ (f : ℕ → Transaction). mark_or (log c) 0 (length (f c).undo)) r.transaction ∙ stored.first (sym same ∙ fine) c;
  low = λ fine c k e. ap (λ (f : ℕ → Transaction). wrote (f c).undo k) r.transaction ∙ stored.low (sym same ∙ fine) c k e;
  written = λ fine c k e. ap (λ (f : ℕ → Transaction). (f c).written k) r.transaction ∙ stored.written (sym same ∙ fine) c k e;
  kept = stored.kept;
  apart = stored.apart;
  idle = λ c e. stored.idle c (sym (ap (λ (f : ℕ → Transaction). (f c).begun) r.transaction) ∙ e);
  mixes = λ readable at mixed m.
      let was = before readable in
      subst (λ (f : ℕ → List ℕ). IsMixed (rows_of (λ c. changes_of (log c)) (decoded schema f)) at (decoded schema mixed) × HoldRows schema mixed) (sym (r.reads was))
      (stored.mixes was at mixed (subst (λ (f : ℕ → Transaction). IsMixed (writes_of f s.reads) (λ c. mark_or (log c) (at c) (length (f c).undo)) mixed) r.transaction
      (subst (λ (f : ℕ → List ℕ). IsMixed (writes_of t.transaction f) (mark_in t log at) mixed) (r.reads was) m)));
  weighed = λ readable c. let was = before readable in subst (λ (f : ℕ → List ℕ). AreWeighed (log c) (decoded schema f)) (sym (r.reads was)) (stored.weighed was c);
  base = λ readable.
      let was = before readable in
      subst (λ (f : ℕ → List ℕ). IsMixed (slots_of t) (λ c. 0) f) (sym (r.keeps.committed was.0))
      (subst (λ (f : ℕ → Transaction). IsMixed (writes_of f t.reads) (λ c. 0) s.committed) (sym r.transaction)
      (subst (λ (f : ℕ → List ℕ). IsMixed (writes_of s.transaction f) (λ c. 0) s.committed) (sym (r.reads was)) (stored.base was)));
}
  where
    before : IsReadable t → IsReadable s
    before h = readable_on t s (sym r.keeps.observable) (sym same) h

-- a call has answered Disk
pub stored_failed : (schema : SchemaData) (s t : SlotState) (log : ℕ → List Undone) (touched : ℕ → List ℕ) → t.failed ≡ true → ((c : ℕ) → (t.transaction c).begun ≡ (s.transaction c).begun) → IsStored schema s log touched → IsStored schema t log touched
stored_failed schema s t log touched failed begun stored = record {
  marks = λ fine c. no fine;
  first = λ fine c. no fine;
  low = λ fine c k e. no fine;
  written = λ fine c k e. no fine;
  kept = stored.kept;
  apart = stored.apart;
  idle = λ c e. stored.idle c (sym (begun c) ∙ e);
  mixes = λ readable at mixed m. no readable.1;
  weighed = λ readable c. no readable.1;
  base = λ readable. no readable.1;
}
  where
    no : {W : Type 0} → t.failed ≡ false → W
    no fine = let e : true ≡ false = sym failed ∙ fine in absurd (cc e)

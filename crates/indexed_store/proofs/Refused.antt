-- Reads of rows one after another, and slots that are refused.
use Rattle.std.proofs.Common.{◌≡◌, ◌≢◌, inl, inr, ⊎_elim, ℕ, ◌<◌, Bool, true, false, List, [], Result, Ok, Err, IsErrOf, OnOk, IsTrue, refl, sym, ap, ◌∙◌, subst, arith}
use Rattle.storage.specs.Slots.{Goes, IsReadable, IsStop, KeepsCommitted, SlotState, Transaction}
use Rattle.storage.specs.declared.slots.SlotFault.{SlotFault}
use Rattle.storage.specs.declared.slots.SlotFault.TheVariants.{Disk as SlotDisk}
use Rattle.row_store.specs.declared.store.RowFault.{RowFault}
use Rattle.row_store.specs.declared.store.RowFault.TheVariants.{Disk as RowDisk, NoMemory as RowMemory}
use Rattle.row_store.specs.Rows.{AfterError, HasCause, RowState}
use Rattle.row_fragments.specs.Calls.{Looked}
use Rattle.row_fragments.proofs.Composes.{goes_both, keeps_both, readable_on, rose_later}
use Rattle.byte_rows.specs.Still.{Still}
use Rattle.byte_rows.proofs.Reading.{looked_still}
use Rattle.indexed_store.specs.declared.open_error.OpenError.{OpenError}
use Rattle.indexed_store.specs.declared.open_error.OpenError.TheVariants.{Disk}
use Rattle.indexed_store.specs.Opened.{CanOpen, HasRead, IsRefused}

clash : {W : Type 0} (b : Bool) → b ≡ true → b ≡ false → W
clash b is not = let wrong : true ≡ false = sym is ∙ not in absurd (cc wrong)

pub on_ok_map : {T E X Y : Type 0} (r : Result T E) → (X → Y) → OnOk r X → OnOk r Y
on_ok_map (Ok v) f x = f x
on_ok_map (Err e) f x = tt

on_ok : {T E : Type 0} {X : Type 0} (r : Result T E) → X → OnOk r X
on_ok (Ok v) x = x
on_ok (Err e) x = tt

-- ---- errors

abbrev error_or : {T E : Type 0} → E → Result T E → E
error_or other (Ok v) = other
error_or other (Err e) = e

err_is : {T E : Type 0} (x y : E) → IsErrOf {T = T} (Err x) y → x ≡ y
err_is x y e = ap (error_or x) e

is_err : {T E : Type 0} (x y : E) → x ≡ y → IsErrOf {T = T} (Err x) y
is_err x y e = ap (λ z. Err z) e

-- an error as one of a result of another type
pub error_as : {T U : Type 0} (r : Result T OpenError) (e x : OpenError) → r ≡ Err e → IsErrOf r x → IsErrOf {T = U} (Err e) x
error_as r e x is error = is_err e x (err_is e x (subst (λ y. IsErrOf y x) is error))

-- ---- no call, and one read

pub still_same : (s : SlotState) (at : ℕ → (ℕ → List ℕ) → Type 0) → ((m : ℕ) (slots : ℕ → List ℕ) → at m slots → IsStop s m) → Still s s at at
still_same s at stop = record {
  rests = record { keeps = record { observable = refl; committed = λ seen. refl; doubt = λ seen. refl }; reads = λ readable. refl; transaction = refl };
  time = record {
    later = omega arith;
    since = refl;
    short = refl;
    nothing_else = λ m slots past h. h;
    stays = λ m slots past h. h;
    here = λ m slots now h. let past = (stop m slots h).past in absurd (omega (arith, now, past));
  };
  later = omega arith;
  failed = refl;
}

pub read_still : {T : Type 0} (a b : SlotState) (at_a at_b : ℕ → (ℕ → List ℕ) → Type 0) (was now : RowState) (r : Result T OpenError) → (IsErrOf r Disk → ⊥) → Still a b at_a at_b → now ≡ was → HasRead a b at_a at_b was now r
read_still a b at_a at_b was now r never f same = record { keeps = f.rests.keeps; time = f.time; later = f.later; disk = λ e. absurd (never e); same = λ fine. same; rests = on_ok r f.rests }

pub still_read : {T : Type 0} (a b : SlotState) (at_a at_b : ℕ → (ℕ → List ℕ) → Type 0) (was now : RowState) (v : T) → was.failed ≡ a.failed → now.failed ≡ b.failed → HasRead {T = T} a b at_a at_b was now (Ok v) → Still a b at_a at_b
still_read a b at_a at_b was now v before after r = record {
  rests = r.rests;
  time = r.time;
  later = r.later;
  failed = sym after ∙ (ap (λ (s : RowState). s.failed) (r.same (λ e. cc e)) ∙ before);
}

pub read_refused : {T U : Type 0} (a b : SlotState) (at_a at_b : ℕ → (ℕ → List ℕ) → Type 0) (was now : RowState) (error : RowFault) (to : OpenError) → was.failed ≡ a.failed → KeepsCommitted a b → Goes a b at_a at_b
    → AfterError {T = T} was now (Err error) → HasCause {T = T} a.faults b.faults was (Err error) → (to ≡ Disk → error ≡ RowDisk) → (to ≢ Disk → error ≡ RowMemory) → HasRead {T = U} a b at_a at_b was now (Err to)
read_refused a b at_a at_b was now error to before keeps time after cause disk memory = record {
  keeps = keeps;
  time = time;
  later = cause.later;
  disk = λ e. ⊎_elim (λ rose. inl rose) (λ (failed : IsTrue was.failed). inr (subst (λ (v : Bool). IsTrue v) before failed)) (cause.disk (is_err error RowDisk (disk (err_is to Disk e))));
  same = λ never. after.memory (is_err error RowMemory (memory (λ q. never (is_err to Disk q))));
  rests = tt;
}

-- the same with a result of another type
pub read_ok_as : {T U : Type 0} (a b : SlotState) (at_a at_b : ℕ → (ℕ → List ℕ) → Type 0) (was now : RowState) (v : T) (w : U) → HasRead {T = T} a b at_a at_b was now (Ok v) → HasRead {T = U} a b at_a at_b was now (Ok w)
read_ok_as a b at_a at_b was now v w r = record { keeps = r.keeps; time = r.time; later = r.later; disk = λ e. cc e; same = λ never. r.same (λ e. cc e); rests = r.rests }

pub read_error_as : {T U : Type 0} (a b : SlotState) (at_a at_b : ℕ → (ℕ → List ℕ) → Type 0) (was now : RowState) (e : OpenError) → HasRead {T = T} a b at_a at_b was now (Err e) → HasRead {T = U} a b at_a at_b was now (Err e)
read_error_as a b at_a at_b was now e r = record { keeps = r.keeps; time = r.time; later = r.later; disk = λ q. r.disk (is_err e Disk (err_is e Disk q)); same = λ never. r.same (λ q. never (is_err e Disk (err_is e Disk q))); rests = tt }

-- the same of the slots of another value
pub read_at : {X T : Type 0} (state : X → SlotState) (stop : X → ℕ → (ℕ → List ℕ) → Type 0) (rows : SlotState → RowState) (a : SlotState) (at_a : ℕ → (ℕ → List ℕ) → Type 0) (was : RowState) (x y : X) (r : Result T OpenError) → y ≡ x
    → HasRead a (state x) at_a (stop x) was (rows (state x)) r → HasRead a (state y) at_a (stop y) was (rows (state y)) r
read_at state stop rows a at_a was x y r same read = subst (λ z. HasRead a (state z) at_a (stop z) was (rows (state z)) r) (sym same) read

-- ---- a read after others

module _ (a b c : SlotState) (at_a at_b at_c : ℕ → (ℕ → List ℕ) → Type 0) (was mid now : RowState) (stop : (m : ℕ) (slots : ℕ → List ℕ) → at_c m slots → IsStop c m) (f : Still a b at_a at_b) where
  pub error_both : {T U : Type 0} (e : OpenError) → mid ≡ was → HasRead {T = T} b c at_b at_c mid now (Err e) → HasRead {T = U} a c at_a at_c was now (Err e)
  error_both e same r = record {
    keeps = keeps_both a b c f.rests.keeps r.keeps;
    time = goes_both a b c at_a at_b at_c f.rests.keeps r.keeps stop f.time r.time;
    later = let one = f.later in let two = r.later in omega (arith, one, two);
    disk = λ q. ⊎_elim (λ rose. inl (rose_later a.faults b.faults c.faults f.later r.later rose)) (λ (failed : IsTrue b.failed). inr (subst (λ (v : Bool). IsTrue v) f.failed failed)) (r.disk (is_err e Disk (err_is e Disk q)));
    same = λ never. r.same (λ q. never (is_err e Disk (err_is e Disk q))) ∙ same;
    rests = tt;
  }

-- ---- slots that may be opened, and those that are refused

pub can_still : (a b : SlotState) (at_a at_b : ℕ → (ℕ → List ℕ) → Type 0) → CanOpen a → Still a b at_a at_b → CanOpen b
can_still a b at_a at_b can f = record {
  idle = λ c. ap (λ (t : ℕ → Transaction). (t c).begun) f.rests.transaction ∙ can.idle c;
  clean = λ c. ap (λ (t : ℕ → Transaction). (t c).undo) f.rests.transaction ∙ can.clean c;
  fine = f.failed ∙ can.fine;
  settled = λ readable k. let start = back readable in at k (f.rests.keeps.committed start.0) ∙ (can.settled start k ∙ sym (at k (f.rests.reads start)));
  certain = λ readable k. let start = back readable in at k (f.rests.keeps.doubt start.0) ∙ (can.certain start k ∙ sym (at k (f.rests.keeps.committed start.0)));
}
  where
    back : IsReadable b → IsReadable a
    back readable = readable_on b a (sym f.rests.keeps.observable) (sym f.failed) readable

    at : {f g : ℕ → List ℕ} (k : ℕ) → f ≡ g → f k ≡ g k
    at k e = ap (λ (h : ℕ → List ℕ). h k) e

pub refused_still : (a b : SlotState) (at_a at_b : ℕ → (ℕ → List ℕ) → Type 0) (e : OpenError) → e ≢ Disk → CanOpen a → Still a b at_a at_b → IsRefused a b at_a at_b e
refused_still a b at_a at_b e ne can f = record { keeps = f.rests.keeps; time = f.time; later = f.later; disk = λ is. absurd (ne is); again = λ fine. can_still a b at_a at_b can f }

pub refused_looked : {T : Type 0} (a b : SlotState) (at_a at_b : ℕ → (ℕ → List ℕ) → Type 0) (fault : SlotFault) (e : OpenError) → (e ≡ Disk → fault ≡ SlotDisk) → (e ≢ Disk → fault ≢ SlotDisk) → CanOpen a
    → Looked {T = T} a b at_a at_b (Err fault) → IsRefused a b at_a at_b e
refused_looked a b at_a at_b fault e disk fine can l = record {
  keeps = l.rests.keeps;
  time = l.time;
  later = l.cause.later;
  disk = λ is. ⊎_elim (λ rose. rose) (λ (failed : IsTrue a.failed). clash a.failed failed can.fine) (l.cause.disk (is_err fault SlotDisk (disk is)));
  again = λ ne. can_still a b at_a at_b can (looked_still a b at_a at_b (Err fault) (λ q. fine ne (err_is fault SlotDisk q)) l);
}

-- rows that were refused while they were read: their slots, closed
module _ (a s t : SlotState) (at_a at_s at_t : ℕ → (ℕ → List ℕ) → Type 0) (was now : RowState) (e : OpenError) (stop : (m : ℕ) (slots : ℕ → List ℕ) → at_t m slots → IsStop t m) (can : CanOpen a) (f : Still a s at_a at_s)
    (was_failed : was.failed ≡ s.failed) (now_failed : now.failed ≡ t.failed) (was_begun : (c : ℕ) → (was.transaction c).begun ≡ (s.transaction c).begun) (now_begun : (c : ℕ) → (now.transaction c).begun ≡ (t.transaction c).begun)
    (idle : t.failed ≡ false → ((c : ℕ) → c < 16 → (t.transaction c).begun ≡ false) → (c : ℕ) → ((t.transaction c).begun ≡ false) × ((t.transaction c).undo ≡ []))
    (settled : IsReadable t → ((c : ℕ) → (t.transaction c).undo ≡ []) → (k : ℕ) → t.committed k ≡ t.reads k) where
  pub refused_read : {T : Type 0} → HasRead {T = T} s t at_s at_t was now (Err e) → IsRefused a t at_a at_t e
  refused_read r = record {
    keeps = keeps;
    time = goes_both a s t at_a at_s at_t f.rests.keeps r.keeps stop f.time r.time;
    later = let one = f.later in let two = r.later in omega (arith, one, two);
    disk = λ is. ⊎_elim (λ rose. rose_later a.faults s.faults t.faults f.later r.later rose) (λ (failed : IsTrue s.failed). clash s.failed failed (f.failed ∙ can.fine)) (r.disk (is_err e Disk is));
    again = λ ne. again (r.same (λ q. ne (err_is e Disk q)));
  }
    where
      keeps : KeepsCommitted a t
      keeps = keeps_both a s t f.rests.keeps r.keeps

      again : now ≡ was → CanOpen t
      again same =
          let fine : t.failed ≡ false = sym now_failed ∙ (ap (λ (x : RowState). x.failed) same ∙ (was_failed ∙ (f.failed ∙ can.fine))) in
          let begun : (c : ℕ) → (t.transaction c).begun ≡ false = λ c.
          sym (now_begun c) ∙ (ap (λ (x : RowState). (x.transaction c).begun) same ∙ (was_begun c ∙ (ap (λ (x : ℕ → Transaction). (x c).begun) f.rests.transaction ∙ can.idle c))) in
          let all = idle fine (λ c lt. begun c) in
          record {
            idle = λ c. (all c).0;
            clean = λ c. (all c).1;
            fine = fine;
            settled = λ readable. settled readable (λ c. (all c).1);
            certain = λ readable k.
                let seen : IsTrue a.observable = subst (λ (v : Bool). IsTrue v) keeps.observable readable.0 in
                ap (λ (h : ℕ → List ℕ). h k) (keeps.doubt seen) ∙ (can.certain (seen, can.fine) k ∙ sym (ap (λ (h : ℕ → List ℕ). h k) (keeps.committed seen)));
          }

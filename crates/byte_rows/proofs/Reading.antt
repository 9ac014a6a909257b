-- Reads one after another.
use Rattle.std.proofs.Common.{◌≡◌, inl, inr, ⊎_elim, ℕ, ◌<◌, ◌≤◌, Bool, false, List, [], Result, IsErrOf, IsTrue, sym, ap, ◌∙◌, subst, arith}
use Rattle.storage.specs.Slots.{SlotState, IsReadable, IsStop, wrote}
use Rattle.storage.specs.declared.slots.Undo.{Undo}
use Rattle.storage.specs.declared.slots.SlotFault.{SlotFault}
use Rattle.storage.specs.declared.slots.SlotFault.TheVariants.{Disk}
use Rattle.row_fragments.specs.Calls.{Covers, Looked}
use Rattle.row_fragments.specs.Tied.{IsValue}
use Rattle.row_fragments.proofs.Composes.{goes_both, rests_both, rose_later}
use Rattle.byte_rows.specs.declared.places.Place.{Place}
use Rattle.byte_rows.specs.Places.{Fits, IsKept}
use Rattle.byte_rows.specs.Still.{Still}
use Rattle.byte_rows.proofs.Rewrites.{high_bound, low_bound}
use Rattle.byte_rows.proofs.Kept.{not_both}

pub looked_still : {T : Type 0} (a b : SlotState) (at_a at_b : ℕ → (ℕ → List ℕ) → Type 0) (r : Result T SlotFault) → (IsErrOf r Disk → ⊥) → Looked a b at_a at_b r → Still a b at_a at_b
looked_still a b at_a at_b r fine l = record { rests = l.rests; time = l.time; later = l.cause.later; failed = l.cause.stays fine }

module _ (a b c : SlotState) (at_a at_b at_c : ℕ → (ℕ → List ℕ) → Type 0) (stop : (m : ℕ) (slots : ℕ → List ℕ) → at_c m slots → IsStop c m) (f : Still a b at_a at_b) where
  pub still_looked : {T : Type 0} (r : Result T SlotFault) → Looked b c at_b at_c r → Looked a c at_a at_c r
  still_looked r s = record {
    rests = rests_both a b c f.failed f.rests s.rests;
    time = goes_both a b c at_a at_b at_c f.rests.keeps s.rests.keeps stop f.time s.time;
    cause = record {
      later = let one = f.later in let two = s.cause.later in omega (arith, one, two);
      disk = λ e. ⊎_elim (λ rose. inl (rose_later a.faults b.faults c.faults f.later s.cause.later rose)) (λ (was : IsTrue b.failed). inr (subst (λ (v : Bool). IsTrue v) f.failed was)) (s.cause.disk e);
      failed = s.cause.failed;
      stays = λ never. s.cause.stays never ∙ f.failed;
    };
  }

  pub still_both : Still b c at_b at_c → Still a c at_a at_c
  still_both s = record {
    rests = rests_both a b c f.failed f.rests s.rests;
    time = goes_both a b c at_a at_b at_c f.rests.keeps s.rests.keeps stop f.time s.time;
    later = let one = f.later in let two = s.later in omega (arith, one, two);
    failed = s.failed ∙ f.failed;
  }

-- no transaction is begun, and each slot fits
pub idle_kept : (s : SlotState) (places : List Place) → ((c : ℕ) → (s.transaction c).begun ≡ false) → ((c : ℕ) → (s.transaction c).undo ≡ []) → (IsReadable s → (k : ℕ) → 8192 ≤ k → k < 1048576 → Fits places k (s.reads k)) → IsKept s places
idle_kept s places idle clean fit = record {
  owned = λ c k within begun written. absurd (not_both (s.transaction c).begun begun (idle c));
  noted = λ c k within is. absurd (not_both (wrote (s.transaction c).undo k) is (ap (λ (us : List Undo). wrote us k) (clean c)));
  idle = λ c is. clean c;
  fits = λ readable k bytes within is. subst (Fits places k) (sym (only_read k bytes is)) (fit readable k (low_bound k within) (high_bound k within));
}
  where
    only_read : (k : ℕ) (bytes : List ℕ) → IsValue s k bytes → bytes ≡ s.reads k
    only_read k bytes (inl is) = is
    only_read k bytes (inr (c, there)) = let none : Covers [] k bytes = subst (λ (us : List Undo). Covers us k bytes) (clean c) there in absurd none

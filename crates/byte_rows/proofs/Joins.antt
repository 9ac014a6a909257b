-- A change of a row, once the slots of ended transactions are settled.
use Rattle.std.proofs.Common.{◌≡◌, inl, inr, ⊎_elim, ℕ, ◌+◌, ◌-◌, ◌*◌, ◌<◌, ◌≤◌, ◌++◌, Bool, List, [], ◌∷◌, length, Option, Result, Ok, Err, IsErrOf, OnOk, IsTrue, refl, sym, ◌∙◌, ap, subst, arith}
use Rattle.std.specs.List.{Contains}
use Rattle.storage.specs.Slots.{SlotState, Transaction, IsReadable, IsStop, Rests}
use Rattle.storage.specs.declared.slots.SlotFault.{SlotFault}
use Rattle.storage.specs.declared.slots.SlotFault.TheVariants.{Disk}
use Rattle.row_fragments.specs.Calls.{Looked, Touched, Wrote}
use Rattle.row_fragments.specs.Chains.{KeepsChains}
use Rattle.row_fragments.specs.Fragments.{StoredBytes, first_or_zero, row_at}
use Rattle.row_fragments.proofs.Composes.{goes_both, keeps_both, readable_on, rose_later}
use Rattle.row_fragments.proofs.Within.{head_in}
use Rattle.byte_rows.specs.Rows.{ChangesRow, IsLeastFor}
use Rattle.byte_rows.specs.Still.{Still}

-- a row's first slot is among its slots
pub first_in : (xs : List ℕ) → 0 < first_or_zero xs → Contains xs (first_or_zero xs)
first_in [] some = absurd (omega (arith, some))
first_in (x ∷ xs) some = head_in x xs

-- what only looked changed no transaction
pub looked_touched : {T U : Type 0} (a b : SlotState) (at_a at_b : ℕ → (ℕ → List ℕ) → Type 0) (client : ℕ) (r : Result T SlotFault) (q : Result U SlotFault) → (IsErrOf r Disk → IsErrOf q Disk) → (IsErrOf q Disk → IsErrOf r Disk)
    → Looked a b at_a at_b r → Touched a b at_a at_b client q
looked_touched a b at_a at_b client r q there back l = record {
  keeps = l.rests.keeps;
  others = λ k ne. ap (λ (f : ℕ → Transaction). f k) l.rests.transaction;
  begun = ap (λ (f : ℕ → Transaction). (f client).begun) l.rests.transaction;
  time = l.time;
  cause = record {
    later = l.cause.later;
    disk = λ e. l.cause.disk (back e);
    failed = λ e. l.cause.failed (back e);
    stays = λ no. l.cause.stays (λ e. no (there e));
  };
}

module _ (a b c : SlotState) (at_a at_b at_c : ℕ → (ℕ → List ℕ) → Type 0) (stop : (m : ℕ) (slots : ℕ → List ℕ) → at_c m slots → IsStop c m) (f : Still a b at_a at_b) where
  -- a change comes after
  pub still_touched : {T U : Type 0} (client : ℕ) (r : Result T SlotFault) (q : Result U SlotFault) → (IsErrOf r Disk → IsErrOf q Disk) → (IsErrOf q Disk → IsErrOf r Disk) → Touched b c at_b at_c client r → Touched a c at_a at_c client q
  still_touched client r q there back t = record {
    keeps = keeps_both a b c f.rests.keeps t.keeps;
    others = λ k ne. t.others k ne ∙ ap (λ (g : ℕ → Transaction). g k) f.rests.transaction;
    begun = t.begun ∙ ap (λ (g : ℕ → Transaction). (g client).begun) f.rests.transaction;
    time = goes_both a b c at_a at_b at_c f.rests.keeps t.keeps stop f.time t.time;
    cause = record {
      later = let one = f.later in let two = t.cause.later in omega (arith, one, two);
      disk = λ e. ⊎_elim (λ rose. inl (rose_later a.faults b.faults c.faults f.later t.cause.later rose)) (λ (was : IsTrue b.failed). inr (subst (λ (v : Bool). IsTrue v) f.failed was)) (t.cause.disk (back e));
      failed = λ e. t.cause.failed (back e);
      stays = λ no. t.cause.stays (λ e. no (there e)) ∙ f.failed;
    };
  }

module _ (a b c : SlotState) (r : Rests a b) (same : b.failed ≡ a.failed) (client : ℕ) (slots : List ℕ) where
  then : IsReadable a → IsReadable b
  then h = readable_on a b r.keeps.observable same h

  pub wrote_after_rests : Wrote b c client slots → Wrote a c client slots
  wrote_after_rests w = record {
    failed = w.failed ∙ same;
    rest = λ h k out. w.rest (then h) k out ∙ ap (λ (f : ℕ → List ℕ). f k) (r.reads h);
    written = λ k out. w.written k out ∙ ap (λ (f : ℕ → Transaction). (f client).written k) r.transaction;
    marked = w.marked;
    counted = w.counted ∙ ap (λ (f : ℕ → Transaction). (f client).counted + length slots) r.transaction;
    low = w.low ∙ ap (λ (f : ℕ → Transaction). (f client).low) r.transaction;
    more = w.more;
    undo = w.undo ∙ ap (λ (f : ℕ → Transaction). (f client).undo ++ w.more) r.transaction;
    of = w.of;
    back = λ h k. w.back (then h) k ∙ ap (λ (f : ℕ → List ℕ). f k) (r.reads h);
    covers = λ h k bytes is. w.covers (then h) k bytes is ∙ ap (λ (f : ℕ → List ℕ). f k) (r.reads h);
  }

  pub changes_after_rests : (row : ℕ) (to : Option StoredBytes) → ChangesRow b c client row slots to → ChangesRow a c client row slots to
  changes_after_rests row to ch = record {
    wrote = wrote_after_rests ch.wrote;
    inside = ch.inside;
    first = ch.first;
    held = λ h. ch.held (then h);
    apart = λ h. ch.apart (then h);
    others = λ h other ne. ch.others (then h) other ne ∙ ap (λ (f : ℕ → List ℕ). row_at f other) (r.reads h);
    chains = λ h. subst (λ (f : ℕ → List ℕ). KeepsChains f c.reads slots) (r.reads h) (ch.chains (then h));
  }

-- the least number of fragments
pub least_of : (bytes n m : ℕ) → m ≡ n → 0 < n → bytes ≤ 240 * n → (1 < n → 240 * (n - 1) < bytes) → IsLeastFor bytes m
least_of bytes n m is some holds least = subst (IsLeastFor bytes) (sym is) (record { some = some; holds = holds; least = least })

-- three facts of Ok at once
pub three_ok : {T E P Q R W : Type 0} (r : Result T E) → OnOk r P → OnOk r Q → OnOk r R → (P → Q → R → W) → OnOk r W
three_ok (Ok v) p q r f = f p q r
three_ok (Err e) p q r f = tt

-- no slot was drawn
pub append_none : (xs ys : List ℕ) → length ys ≡ 0 → xs ++ ys ≡ xs
append_none [] [] none = refl
append_none [] (y ∷ ys) none = absurd (omega (arith, none))
append_none (x ∷ xs) ys none = ap (λ (zs : List ℕ). x ∷ zs) (append_none xs ys none)

-- a row that grows begins where it began
pub first_append : (xs ys : List ℕ) → 0 < first_or_zero xs → first_or_zero (xs ++ ys) ≡ first_or_zero xs
first_append [] ys some = absurd (omega (arith, some))
first_append (x ∷ xs) ys some = refl

-- a row that had no slot begins with the first that was drawn
pub first_of_none : (old drawn chain : List ℕ) → chain ≡ old ++ drawn → length old ≡ 0 → first_or_zero chain ≡ first_or_zero drawn
first_of_none [] drawn chain is none = ap first_or_zero is
first_of_none (x ∷ xs) drawn chain is none = absurd (omega (arith, none))

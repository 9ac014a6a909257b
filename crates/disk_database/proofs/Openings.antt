-- Slots and stores from the moment at which a disk is opened.
use Rattle.std.proofs.Common.{◌≡◌, ◌⊎◌, ◌≤◌, ◌<◌, ℕ, Bool, List, sym, subst, arith, inl, inr}
use Rattle.std.proofs.Props.{props}
use Rattle.std.proofs.lemmas.Bool.{cases_lt}
use Rattle.storage.specs.Slots.{SlotState}
use Rattle.log_meaning.specs.steps.Steps.{Image, Run}
use Rattle.log_meaning.specs.Images.{Recovers}
use Rattle.bi_recovery.specs.Reopening.{SameRecovery}
use Rattle.slot_txn.specs.logged.Stops.{Stops}
use Rattle.slot_rows.specs.Chained.{StayChains}
use Rattle.slot_txn.specs.Opening.{IsOpenedOver}
use Rattle.disk_database.specs.Inside.{AreOpened}
use Rattle.disk_database.specs.Images.{RecoversAsBefore}

same_slots : (x y : ℕ → List ℕ) → IsProp (x ≡ y)
same_slots x y = hlevel props

-- just opened, a stop leaves what a stop at the first moment leaves
pub stops_first : (now_observable : Bool) (since now : ℕ) (left' : ℕ → Image → Type 0) (was : ℕ) (left : ℕ → Image → Type 0) → since ≡ was → Run was now left left' SameRecovery → (m : ℕ) (slots : ℕ → List ℕ)
    → Stops now_observable since now left' m slots → Stops now_observable since now left' since slots
stops_first now_observable since now left' was left same run m slots st = (st.0, omega arith, (let from = st.1 in let past = st.2 in omega (arith, from, past)), by_time (cases_lt was m))
  where
    by_time : (was < m) ⊎ (m ≤ was) → (image : Image) × left' since image × Recovers image slots
    by_time (inl later) = let h = run.here m st.3.0 later st.3.1 in (h.0, subst (λ (k : ℕ). left' k h.0) (sym same) (run.stays was h.0 (omega arith) h.1), h.2.from slots st.3.2)
    by_time (inr le) = let from = st.1 in let first : m ≡ since = omega (arith, le, from, same) in (st.3.0, subst (λ (k : ℕ). left' k st.3.0) first st.3.1, st.3.2)

-- so it leaves what one at the first moment leaves, or chains
pub stays_first : (now_observable : Bool) (since now : ℕ) (left' : ℕ → Image → Type 0) (was : ℕ) (left : ℕ → Image → Type 0) → since ≡ was → Run was now left left' SameRecovery → StayChains (Stops now_observable since now left') since
stays_first now_observable since now left' was left same run m slots st = ∣ inl (stops_first now_observable since now left' was left same run m slots st) ∣₁

-- after opening
pub opened_over : (s : SlotState) (now_observable : Bool) (since now : ℕ) (left' : ℕ → Image → Type 0) (observable : Bool) (seen : Image) (was : ℕ) (left : ℕ → Image → Type 0) → since ≡ was
    → IsOpenedOver s (Stops now_observable since now left') observable seen was left → Run was now left left' SameRecovery → AreOpened s (Stops now_observable since now left') observable seen was left
opened_over s now_observable since now left' observable seen was left same over run = record {
  same_observable = over.same_observable;
  since = over.since;
  certain = λ known. over.certain;
  recovered = λ known. subst (λ (slots : ℕ → List ℕ). Recovers seen slots) (sym over.settled) (over.recovered known);
  come = come;
}
  where
    come : (m : ℕ) (slots : ℕ → List ℕ) → Stops now_observable since now left' m slots → (old : Image) × left was old × Recovers old slots
    come m slots st = by_time (cases_lt was m)
      where
        at_start : m ≤ was → m ≡ was
        at_start le = let from = st.1 in omega (arith, le, from, same)

        by_time : (was < m) ⊎ (m ≤ was) → (old : Image) × left was old × Recovers old slots
        by_time (inl later) = let h = run.here m st.3.0 later st.3.1 in (h.0, h.1, h.2.from slots st.3.2)
        by_time (inr le) = (st.3.0, subst (λ (k : ℕ). left k st.3.0) (at_start le) (run.nothing_else m st.3.0 le st.3.1), st.3.2)

-- the images of a disk whose slots were opened and then only read
pub opened_images : (s : SlotState) (stop : ℕ → (ℕ → List ℕ) → Type 0) (observable : Bool) (seen : Image) (was : ℕ) (left left' : ℕ → Image → Type 0) → AreOpened s stop observable seen was left
    → ((m : ℕ) (image : Image) (slots : ℕ → List ℕ) → s.since ≤ m → left' m image → Recovers image slots → stop m slots) → RecoversAsBefore was left left'
opened_images s stop observable seen was left left' opened law m image slots from there recovers =
    let is = opened.since in
    opened.come m slots (law m image slots (omega (arith, from, is)) there recovers)

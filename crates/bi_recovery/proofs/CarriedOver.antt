-- A generation that carries slots recovers to what the old one did.
use Rattle.std.proofs.Common.{◌≡◌, inl, inr, ⊎_elim, ℕ, ◌+◌, ◌-◌, ◌<◌, ◌≤◌, true, List, [], refl, sym, ◌∙◌, ap, subst, arith}
use Rattle.std.proofs.lemmas.Bool.{cases_Bool, cases_lt}
use Rattle.storage.specs.Disk.{Others}
use Rattle.storage.specs.declared.slots.Undo.{Undo}
use Rattle.storage.specs.Slots.{wrote, undone}
use Rattle.log_meaning.specs.steps.Steps.{Image, Run}
use Rattle.log_meaning.proofs.StepsLemmas.Runs.{traced}
use Rattle.log_meaning.specs.declared.note.Note.{Note}
use Rattle.log_meaning.specs.Images.{IsOpened, slot_of}
use Rattle.log_meaning.specs.Recovered.{changes_of, recovered}
use Rattle.log_meaning.specs.LogState.{notes_in, LogState, IsFilled}
use Rattle.log_meaning.proofs.LoggedStarts.{Each}
use Rattle.log_meaning.proofs.LogStates.{others_agree}
use Rattle.log_meaning.proofs.Undone.{undone-not}
use Rattle.bi_log.specs.Appending.{Held, Holds, RestsAt}
use Rattle.bi_recovery.specs.ReadNotes.{HoldsNotes}
use Rattle.bi_recovery.specs.Carried.{stills, IsOpenLog, CarriesTo}
use Rattle.bi_recovery.specs.Reopening.{SameAreas, SameRecovery, NewLog}
use Rattle.bi_recovery.proofs.Carrying.{still_notes, stills_below, stills_filled}
use Rattle.bi_recovery.proofs.Reopening.{state_keeps, same_below}
use Rattle.bi_recovery.proofs.Stilling.{IsStill, still_given, still_opens}

module _ (a g e : ℕ) (bs : List (List Note)) (base : ℕ → List ℕ) (us : List Undo) (n : ℕ) (seen : Image)
    (are : (below : ℕ → List ℕ) (s : ℕ) → undone us below s ≡ recovered (notes_in bs) below s) (above : (s : ℕ) → wrote us s ≡ true → s < n) where
  -- the bytes that are carried are the recovered ones
  carried_bytes : (d : Image) → d 0 ≡ seen 0 → LogState a g e bs base d → (s : ℕ) → undone us (slot_of (seen 0)) s ≡ recovered (notes_in bs) base s
  carried_bytes d same st s = are (slot_of (seen 0)) s ∙ same_below (notes_in bs) (slot_of (seen 0)) base s (λ none. ap (λ (l : List ℕ). slot_of l s) (sym same) ∙ st.below s none)

  -- a slot that is not carried has them in area 0
  not_carried : (notes : List Note) → stills (undone us (slot_of (seen 0))) n ≡ notes → (s : ℕ) → changes_of s notes ≡ [] → slot_of (seen 0) s ≡ undone us (slot_of (seen 0)) s
  not_carried notes is s none = ⊎_elim
      (λ (within : s < n). absurd (stills_below (undone us (slot_of (seen 0))) n s within (ap (changes_of s) is ∙ none)))
      (λ (past : n ≤ s). elim (cases_Bool (wrote us s)) [
        | inl it ↦ absurd (let lt = above s it in omega (arith, lt, past))
        | inr not ↦ sym (undone-not us (slot_of (seen 0)) s not)
      ])
      (cases_lt s n)

  carried_each : (notes : List Note) → stills (undone us (slot_of (seen 0))) n ≡ notes → (s : ℕ) → Each (IsStill (undone us (slot_of (seen 0)) s)) (changes_of s notes)
  carried_each notes is s = subst (λ (l : List Note). Each (IsStill (undone us (slot_of (seen 0)) s)) (changes_of s l)) is (still_notes (undone us (slot_of (seen 0))) n s)

  opened_log : (d image : Image) (h : Held) → d 0 ≡ seen 0 → LogState a g e bs base d → Others (3 - a) d image → Holds (image (3 - a)) h → g < h.generation → stills (undone us (slot_of (seen 0))) n ≡ notes_in h.batches
      → LogState (3 - a) h.generation e h.batches (slot_of (d 0)) image × SameRecovery d image
  opened_log d image h same st others holds later is = still_opens a g e bs base h d image st others holds later
      (λ s. subst (λ (b : List ℕ). Each (IsStill b) (changes_of s (notes_in h.batches))) (carried_bytes d same st s) (carried_each (notes_in h.batches) is s))
      (λ s none. ap (λ (l : List ℕ). slot_of l s) same ∙ not_carried (notes_in h.batches) is s none ∙ carried_bytes d same st s)

  pub carried_same : (d image : Image) → d 0 ≡ seen 0 → LogState a g e bs base d → CarriesTo (3 - a) (g + 1) (stills (undone us (slot_of (seen 0))) n) d image → SameRecovery d image
  carried_same d image same st s = ⊎_elim
      (λ (k : HoldsNotes (image (3 - a)) (g + 1) (stills (undone us (slot_of (seen 0))) n)). (opened_log d image (record { generation = g + 1; batches = k.batches }) same st s.others k.log (omega arith) k.are).1)
      (λ (less : (h : ℕ) → IsOpened (image (3 - a)) h → IsOpened (d (3 - a)) h). state_keeps a g e bs base d image st (others_agree a g e bs base d image s.others less st))
      s.either

  pub carried_log : (was now : ℕ) (before after : ℕ → Image → Type 0) (gate : ℕ) → Run was now before after (Others (3 - a)) → ((image : Image) → before was image → SameAreas seen image) → ((image : Image) → before was image → LogState a g e bs base image)
      → IsOpenLog (after now) (3 - a) gate (g + 1) (stills (undone us (slot_of (seen 0))) n) → NewLog (after now) (3 - a) (g + 1) e gate (undone us (slot_of (seen 0)))
  carried_log was now before after gate run synced agrees k = record {
    batches = k.held.batches;
    base = slot_of (seen 0);
    agrees = λ image left.
        let h = traced _ _ _ _ (Others (3 - a)) run (λ d i other. refl) image left in
        let same = synced (h.0) (h.1) 0 (omega arith) in
        subst (λ (l : List ℕ). LogState (3 - a) (g + 1) e k.held.batches (slot_of l) image) same
        (opened_log (h.0) image (record { generation = g + 1; batches = k.held.batches }) same (agrees (h.0) (h.1)) (h.2) (rests image left).log (omega arith) k.are).0;
    rests = λ image left. record { at = (rests image left).at; there = (rests image left).there };
    recovers = λ p s. still_given p (slot_of (seen 0) s) (undone us (slot_of (seen 0)) s) (changes_of s (notes_in k.held.batches)) (carried_each (notes_in k.held.batches) k.are s) (not_carried (notes_in k.held.batches) k.are s);
    filled = subst (IsFilled e) k.are (stills_filled e (undone us (slot_of (seen 0))) n);
  }
    where
      rests : (image : Image) → after now image → RestsAt (image (3 - a)) (record { generation = g + 1; batches = k.held.batches }) gate
      rests image left = subst (λ (x : ℕ). RestsAt (image (3 - a)) (record { generation = x; batches = k.held.batches }) gate) k.is_generation (k.rests image left)

-- The way past a gap, as laws: a new generation that carries, for each slot past the end of area 0 up to the last with a note, a note of the bytes that the slot recovers to, before and after. Then no slot is written before the generation is opened, and after it each of them may be.
use Rattle.std.proofs.Common.{◌≡◌, ◌≢◌, inl, inr, ℕ, ◌-◌, ◌*◌, ◌<◌, Bool, List, [], ◌∷◌, refl, sym, ◌∙◌, ap}
use Rattle.std.proofs.lemmas.Bool.{cases_Bool, cond-true, cond-false}
use Rattle.storage.specs.Disk.{Others}
use Rattle.log_meaning.specs.steps.Steps.{Image}
use Rattle.log_meaning.specs.declared.note.Change.{Change}
use Rattle.log_meaning.specs.declared.note.Note.{Note}
use Rattle.log_meaning.specs.Recovered.{changes_of, is_committed, last_new, given, recovered}
use Rattle.log_meaning.specs.Images.{slot_of}
use Rattle.log_meaning.specs.LogState.{notes_in, LogState, IsFilled, MayWrite}
use Rattle.log_meaning.proofs.LoggedStarts.{Each}
use Rattle.log_meaning.proofs.LogStates.{stands_for, other_opening}
use Rattle.log_meaning.proofs.Filling.{filled_may}
use Rattle.bi_log.specs.Appending.{Held, Holds}
use Rattle.bi_recovery.specs.Reopening.{SameRecovery}
use Rattle.bi_recovery.proofs.Reopening.{keeps_same}

-- a change that leaves these bytes
abbrev pub IsStill : List ℕ → Change → Type 0
IsStill bytes c = (c.old ≡ bytes) × (c.new ≡ bytes)

still_last : (p : ℕ → Bool) (bytes : List ℕ) (cs : List Change) → Each (IsStill bytes) cs → last_new p bytes cs ≡ bytes
still_last p bytes [] each = refl
still_last p bytes (c ∷ cs) each = elim (cases_Bool (p c.tx)) [
  | inl it ↦ ap (λ (o : List ℕ). last_new p o cs) (cond-true (p c.tx) _ _ it ∙ (each.0).1) ∙ still_last p bytes cs (each.1)
  | inr not ↦ ap (λ (o : List ℕ). last_new p o cs) (cond-false (p c.tx) _ _ not) ∙ still_last p bytes cs (each.1)
]

pub still_given : (p : ℕ → Bool) (below bytes : List ℕ) (cs : List Change) → Each (IsStill bytes) cs → (cs ≡ [] → below ≡ bytes) → given p below cs ≡ bytes
still_given p below bytes [] each none = none refl
still_given p below bytes (c ∷ cs) each none = ap (λ (o : List ℕ). last_new p o (c ∷ cs)) ((each.0).0) ∙ still_last p bytes (c ∷ cs) each

-- the generation is opened: the image has its log state, and recovers to what it recovered to
pub still_opens : (a g e : ℕ) (bs : List (List Note)) (base : ℕ → List ℕ) (h : Held) (d image : Image) → LogState a g e bs base d → Others (3 - a) d image → Holds (image (3 - a)) h → g < h.generation
    → ((s : ℕ) → Each (IsStill (recovered (notes_in bs) base s)) (changes_of s (notes_in h.batches)))
    → ((s : ℕ) → changes_of s (notes_in h.batches) ≡ [] → slot_of (d 0) s ≡ recovered (notes_in bs) base s)
    → LogState (3 - a) h.generation e h.batches (slot_of (d 0)) image × SameRecovery d image
still_opens a g e bs base h d image st others holds later still rest =
    let opened = other_opening a g e bs base d image h.generation e h.batches (slot_of (d 0)) others holds later st.there (λ s. refl) st in (
      opened,
      keeps_same d image _ _ (stands_for a g e bs base d st) (stands_for (3 - a) h.generation e h.batches (slot_of (d 0)) image opened)
          (λ s. sym (still_given (is_committed (notes_in h.batches)) (slot_of (d 0) s) (recovered (notes_in bs) base s) (changes_of s (notes_in h.batches)) (still s) (rest s))),
    )

-- and then each slot with a note may be written
pub still_may : (e : ℕ) (h : Held) → IsFilled e (notes_in h.batches) → (s : ℕ) → changes_of s (notes_in h.batches) ≢ [] → MayWrite e h.batches (256 * s) 256
still_may e h filled s noted = filled_may e h.batches s filled noted

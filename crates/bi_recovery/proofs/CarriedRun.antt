-- The steps to a generation that carries slots.
use Rattle.std.proofs.Common.{◌≡◌, ◌≢◌, inl, inr, ⊎_elim, ℕ, List, get_or, refl, sym, ◌∙◌, subst, arith}
use Rattle.storage.specs.Disk.{Others}
use Rattle.log_meaning.specs.steps.Steps.{Image, Run}
use Rattle.log_meaning.proofs.StepsLemmas.Runs.{joined, wider}
use Rattle.log_meaning.specs.declared.note.Note.{Note}
use Rattle.log_meaning.specs.Images.{IsOpened, HoldsLog}
use Rattle.log_meaning.specs.LogState.{notes_in}
use Rattle.bi_log.specs.Appending.{Held, Holds}
use Rattle.bi_log.specs.Generations.{Closes, IsClosed, AfterGate, Opens}
use Rattle.bi_recovery.specs.ReadNotes.{HoldsNotes}
use Rattle.bi_recovery.specs.Carried.{IsCarried, CarriesTo}

-- the other areas stay, and this one has an open header only where it had one
pub record OpensNone (area : ℕ) (old new : Image) : Type 0 where
  pub others : Others area old new
  pub opened : (h : ℕ) → IsOpened (new area) h → IsOpened (old area) h

pub none_twice : (a : ℕ) (d e image : Image) → OpensNone a d e → OpensNone a e image → OpensNone a d image
none_twice a d e image one two = record { others = λ k other. two.others k other ∙ one.others k other; opened = λ h o. one.opened h (two.opened h o) }

pub none_closes : (a : ℕ) (d image : Image) → Closes a d image → OpensNone a d image
none_closes a d image s = record { others = s.others; opened = s.opened }

pub none_after : (a : ℕ) (d image : Image) → IsClosed (d a) → AfterGate a d image → OpensNone a d image
none_after a d image closed s = record { others = s.others; opened = λ h o. absurd (closed.gate (sym (s.gate.same 0 (omega arith)) ∙ sym (o.head 0 (omega arith)))) }

pub run_none : (was mid now : ℕ) (before between after : ℕ → Image → Type 0) (a : ℕ) → Run was mid before between (OpensNone a) → Run mid now between after (OpensNone a) → Run was now before after (OpensNone a)
run_none was mid now before between after a one two = joined _ _ _ _ _ _ (OpensNone a) (OpensNone a) (OpensNone a) one two (λ d image there s. s) (λ d image there m s. s) (λ d e image there x m y. none_twice a d e image x y)

pub run_after : (was now : ℕ) (before after : ℕ → Image → Type 0) (a : ℕ) → Run was now before after (AfterGate a) → ((image : Image) → before was image → IsClosed (image a)) → Run was now before after (OpensNone a)
run_after was now before after a run closed = wider _ _ _ _ (AfterGate a) (OpensNone a) run (λ d image there s. none_after a d image (closed d there) s)

pub none_to : (a g : ℕ) (notes : List Note) (d image : Image) → OpensNone a d image → CarriesTo a g notes d image
none_to a g notes d image s = record { others = s.others; either = inr s.opened }

held_notes : (area : List ℕ) (g : ℕ) (notes : List Note) (h : Held) → h.generation ≡ g → notes ≡ notes_in h.batches → Holds area h → HoldsNotes area g notes
held_notes area g notes h is are holds_it = record { batches = h.batches; log = subst (λ (k : ℕ). HoldsLog area k h.batches) is holds_it; are = are }

-- the gate is opened last
pub opens_carried : (a g : ℕ) (notes : List Note) (h : Held) (d e image : Image) → h.generation ≡ g → notes ≡ notes_in h.batches → OpensNone a d e → Opens a h e image → CarriesTo a g notes d image
opens_carried a g notes h d e image is are one two = record {
  others = λ k other. two.others k other ∙ one.others k other;
  either = ⊎_elim
      (λ (holds_it : Holds (image a) h). inl (held_notes (image a) g notes h is are holds_it))
      (λ (shut : get_or (image a) 0 0 ≢ 1). inr (λ k o. absurd (shut (sym (o.head 0 (omega arith))))))
      two.holds;
}

-- all steps
pub run_carried : (was mid now : ℕ) (before between after : ℕ → Image → Type 0) (a g gate : ℕ) (notes : List Note) → Run was mid before between (OpensNone a) → (k : IsCarried (between mid) a gate g notes) → Run mid now between after (Opens a k.held) → Run was now before after (CarriesTo a g notes)
run_carried was mid now before between after a g gate notes one k two = joined _ _ _ _ _ _ (OpensNone a) (Opens a k.held) (CarriesTo a g notes) one two
    (λ d image there s. none_to a g notes d image s)
    (λ d image there m s. opens_carried a g notes k.held d d image k.is_generation k.are (record { others = λ i other. refl; opened = λ h o. o }) s)
    (λ d e image there x m y. opens_carried a g notes k.held d e image k.is_generation k.are x y)

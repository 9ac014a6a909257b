-- What recovery does to the images.
use Rattle.std.proofs.Common.{◌≡◌, ◌≢◌, ◌⊎◌, inl, inr, ⊎_elim, ℕ, ◌+◌, ◌-◌, ◌*◌, ◌<◌, ◌≤◌, List, [], length, get_or, refl, sym, ◌∙◌, ap, subst, arith}
use Rattle.storage.specs.Disk.{Others}
use Rattle.log_meaning.specs.steps.Steps.{Image, Run}
use Rattle.log_meaning.proofs.StepsLemmas.Runs.{joined, wider, holds, traced}
use Rattle.log_meaning.specs.declared.note.Note.{Note}
use Rattle.log_meaning.specs.Recovered.{changes_of, is_committed, recovered}
use Rattle.log_meaning.specs.Images.{IsOpened, Recovers, slot_of}
use Rattle.log_meaning.specs.LogState.{notes_in, LogState, WritesNoted}
use Rattle.log_meaning.proofs.LogStates.{one_recovery, stands_for, others_agree, other_opening}
use Rattle.bi_log.specs.Appending.{Holds, fresh}
use Rattle.bi_log.specs.Generations.{Closes, IsClosed, AfterGate, Opens}
use Rattle.log_meaning.proofs.Notes.{given-below}
use Rattle.log_meaning.proofs.Filling.{writes_agree}
use Rattle.storage.specs.declared.slots.Undo.{Undo}
use Rattle.storage.specs.Slots.{undone}
use Rattle.bi_recovery.specs.Reopening.{StepsTo, SameRecovery, Gives}

-- ---- the steps of a new generation

no_head : (area : List ℕ) → get_or area 0 0 ≢ 1 → (h : ℕ) → IsOpened area h → ⊥
no_head area shut h o = shut (sym (o.head 0 (omega arith)))

pub closes_step : (a g : ℕ) (d image : Image) → Closes a d image → StepsTo a g d image
closes_step a g d image s = record { others = s.others; either = inr s.opened }

pub after_gate_step : (a g : ℕ) (d image : Image) → IsClosed (d a) → AfterGate a d image → StepsTo a g d image
after_gate_step a g d image closed s = record { others = s.others; either = inr (λ h o. absurd (no_head (image a) (λ one. closed.gate (sym (s.gate.same 0 (omega arith)) ∙ one)) h o)) }

pub opens_step : (a g : ℕ) (d image : Image) → Opens a (fresh g) d image → StepsTo a g d image
opens_step a g d image s = record {
  others = s.others;
  either = ⊎_elim (λ (holds_it : Holds (image a) (fresh g)). inl holds_it) (λ (shut : get_or (image a) 0 0 ≢ 1). inr (λ h o. absurd (no_head (image a) shut h o))) s.holds;
}

-- two steps form one, if the first adds no open header, or if no header is open both after the first and after the second
pub step_twice : (a g : ℕ) (d e image : Image) → StepsTo a g d e → StepsTo a g e image → ((h : ℕ) → IsOpened (e a) h → IsOpened (d a) h) ⊎ ((h : ℕ) → IsOpened (image a) h → IsOpened (e a) h → ⊥) → StepsTo a g d image
step_twice a g d e image one two why = record {
  others = λ k other. two.others k other ∙ one.others k other;
  either = ⊎_elim
      (λ (holds_it : Holds (image a) (fresh g)). inl holds_it)
      (λ (less : (h : ℕ) → IsOpened (image a) h → IsOpened (e a) h). inr (λ h o. ⊎_elim
      (λ (back : (h : ℕ) → IsOpened (e a) h → IsOpened (d a) h). back h (less h o))
      (λ (none : (h : ℕ) → IsOpened (image a) h → IsOpened (e a) h → ⊥). absurd (none h o (less h o)))
      why))
      two.either;
}

pub shut_head : (area : List ℕ) → IsClosed area → (h : ℕ) → IsOpened area h → ⊥
shut_head area closed h o = no_head area closed.gate h o

-- ---- the same recovered slots

pub keeps_same : (d image : Image) (x y : ℕ → List ℕ) → Recovers d x → Recovers image y → ((s : ℕ) → x s ≡ y s) → SameRecovery d image
keeps_same d image x y rd ri same = record {
  to = λ slots r. record { area = ri.area; generation = ri.generation; batches = ri.batches; newest = ri.newest; log = ri.log; gives = λ s. one_recovery d slots x r rd s ∙ same s ∙ ri.gives s };
  from = λ slots r. record { area = rd.area; generation = rd.generation; batches = rd.batches; newest = rd.newest; log = rd.log; gives = λ s. one_recovery image slots y r ri s ∙ sym (same s) ∙ rd.gives s };
}

pub keeps_none : (d image : Image) → image ≡ d → SameRecovery d image
keeps_none d image is = record { to = λ slots r. subst (λ (i : Image). Recovers i slots) (sym is) r; from = λ slots r. subst (λ (i : Image). Recovers i slots) is r }

pub keeps_twice : (d e image : Image) → SameRecovery d e → SameRecovery e image → SameRecovery d image
keeps_twice d e image one two = record { to = λ slots r. two.to slots (one.to slots r); from = λ slots r. one.from slots (two.from slots r) }

pub state_keeps : (a g e : ℕ) (bs : List (List Note)) (base : ℕ → List ℕ) (d image : Image) → LogState a g e bs base d → LogState a g e bs base image → SameRecovery d image
state_keeps a g e bs base d image x y = keeps_same d image _ _ (stands_for a g e bs base d x) (stands_for a g e bs base image y) (λ s. refl)

-- two consecutive runs preserve the recovered slots, if each step does
pub stage : (was mid now : ℕ) (before between after : ℕ → Image → Type 0) (Step : Image → Image → Type 0)
    → Run was mid before between SameRecovery → Run mid now between after Step → ((d image : Image) → between mid d → Step d image → SameRecovery d image) → Run was now before after SameRecovery
stage was mid now before between after Step one two step = joined _ _ _ _ _ _ SameRecovery SameRecovery SameRecovery one
    (wider _ _ _ _ Step SameRecovery two (λ d image there s. step d image there s))
    (λ d image there s. s) (λ d image there mid s. s) (λ d e image there x mid y. keeps_twice d e image x y)

-- the steps to a new generation without notes preserve the recovered slots, if area 0 contains all slots as they recover
pub steps_keep : (a g h e wider_e : ℕ) (bs : List (List Note)) (base : ℕ → List ℕ) (d image : Image) → g < h → StepsTo (3 - a) h d image → 256 * wider_e ≤ length (d 0)
    → ((s : ℕ) → recovered (notes_in bs) base s ≡ slot_of (d 0) s) → LogState a g e bs base d → SameRecovery d image
steps_keep a g h e wider_e bs base d image later step there same st = ⊎_elim
    (λ (holds_it : Holds (image (3 - a)) (fresh h)). keeps_same d image _ _ (stands_for a g e bs base d st)
    (stands_for (3 - a) h wider_e [] (slot_of (d 0)) image (other_opening a g e bs base d image h wider_e [] (slot_of (d 0)) step.others holds_it later there (λ s. refl) st)) same)
    (λ (less : (k : ℕ) → IsOpened (image (3 - a)) k → IsOpened (d (3 - a)) k). state_keeps a g e bs base d image st (others_agree a g e bs base d image step.others less st))
    step.either

-- the recovered slots depend on the base only at slots without a note
pub same_below : (notes : List Note) (f g : ℕ → List ℕ) (s : ℕ) → (changes_of s notes ≡ [] → f s ≡ g s) → recovered notes f s ≡ recovered notes g s
same_below notes f g s same = given-below (is_committed notes) (f s) (g s) (changes_of s notes) same

-- ---- slots put back

module _ (a g e : ℕ) (bs : List (List Note)) (base : ℕ → List ℕ) (us : List Undo) (seen mid : Image) (gives : Gives e bs us)
    (was : LogState a g e bs base seen) (reads : (s : ℕ) → slot_of (mid 0) s ≡ undone us (slot_of (seen 0)) s) where
  -- area 0 reads what is recovered
  pub put_reads : (s : ℕ) → recovered (notes_in bs) base s ≡ slot_of (mid 0) s
  put_reads s = same_below (notes_in bs) base (slot_of (seen 0)) s (λ none. sym (was.below s none)) ∙ sym (gives.are (slot_of (seen 0)) s) ∙ sym (reads s)

-- the images after the slots are put back
put_agrees : (was now : ℕ) (before after : ℕ → Image → Type 0) (a g e : ℕ) (bs : List (List Note)) (base : ℕ → List ℕ) → Run was now before after (WritesNoted bs) → ((image : Image) → before was image → LogState a g e bs base image)
    → (image : Image) → after now image → LogState a g e bs base image
put_agrees was now before after a g e bs base run agrees image left = holds _ _ _ _ (WritesNoted bs) (λ x. LogState a g e bs base x) run agrees (λ d x there s. writes_agree a g e bs base d x s (agrees d there)) now image run.later left

pub put_same : (was now : ℕ) (before after : ℕ → Image → Type 0) (a g e : ℕ) (bs : List (List Note)) (base : ℕ → List ℕ) → Run was now before after (WritesNoted bs) → ((image : Image) → before was image → LogState a g e bs base image)
    → Run was now before after SameRecovery
put_same was now before after a g e bs base run agrees = wider _ _ _ _ (WritesNoted bs) SameRecovery run (λ d image there s. state_keeps a g e bs base d image (agrees d there) (writes_agree a g e bs base d image s (agrees d there)))

-- and the whole
module _ (was mid now : ℕ) (before between after : ℕ → Image → Type 0) (a g e : ℕ) (bs : List (List Note)) (base : ℕ → List ℕ) (us : List Undo) (old seen : Image)
    (gives : Gives e bs us) (agrees : (image : Image) → before was image → LogState a g e bs base image) (there : before was old)
    (one : Run was mid before between (WritesNoted bs)) (synced : (image : Image) → between mid image → image 0 ≡ seen 0)
    (reads : (s : ℕ) → slot_of (seen 0) s ≡ undone us (slot_of (old 0)) s) (two : Run mid now between after (StepsTo (3 - a) (g + 1))) where
  agreed : (image : Image) → between mid image → LogState a g e bs base image
  agreed = put_agrees _ _ _ _ a g e bs base one agrees

  same : (d : Image) → between mid d → (s : ℕ) → recovered (notes_in bs) base s ≡ slot_of (d 0) s
  same d m s = put_reads a g e bs base us old seen gives (agrees old there) reads s ∙ sym (ap (λ (l : List ℕ). slot_of l s) (synced d m))

  pub rebuilt : Run was now before after SameRecovery
  rebuilt = stage _ _ _ _ _ _ (StepsTo (3 - a) (g + 1)) (put_same _ _ _ _ a g e bs base one agrees) two
      (λ d image m s. steps_keep a g (g + 1) e e bs base d image (omega arith) s (agreed d m).there (same d m) (agreed d m))

  pub reopened : (image : Image) → after now image → Holds (image (3 - a)) (fresh (g + 1)) → LogState (3 - a) (g + 1) e [] (undone us base) image
  reopened image left holds_it =
      let h = traced _ _ _ _ (λ d x. Others (3 - a) d x) (wider _ _ _ _ (StepsTo (3 - a) (g + 1)) (λ d x. Others (3 - a) d x) two (λ d x m s. s.others)) (λ d k other. refl) image left in
      other_opening a g e bs base (h.0) image (g + 1) e [] (undone us base) (h.2) holds_it (omega arith) (agreed (h.0) (h.1)).there (λ s. sym (same (h.0) (h.1) s) ∙ sym (gives.are base s)) (agreed (h.0) (h.1))

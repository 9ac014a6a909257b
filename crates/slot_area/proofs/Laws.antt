-- What holds of an area of slots.
use Rattle.std.proofs.Common.{◌≡◌, ⊎_elim, ℕ, zero, suc, ◌+◌, ◌<◌, ◌≤◌, Bool, true, ◌||◌, is_some, List, length, get_or, Option, Some, None, refl, sym, ◌∙◌, ap, arith}
use Rattle.std.specs.List.{slice_get}
use Rattle.std.proofs.lemmas.Bool.{cases_lt, leb-true, le-leb}
use Rattle.std.proofs.lemmas.List.{get_or_past}
use Rattle.std.proofs.lemmas.Option.{none-some}
use Rattle.log_meaning.specs.Images.{slot_of}
use Rattle.slot_area.specs.declared.frame.Frame.{Frame}
use Rattle.slot_area.specs.declared.slot_area.SlotArea.{SlotArea}
use Rattle.slot_area.specs.Frames.{note_of, is_settled, is_free, with_slot, frame_at, frame_of, ArePlaced}
use Rattle.slot_area.specs.Area.{view, unwritten, IsKept, IsWhole}
use Rattle.slot_area.proofs.FrameLists.{with_none, is_placed}
use Rattle.slot_area.proofs.AreaRuns.{below_in, below_out}

-- Where no slot has a change, area 0 has what each slot reads.
pub all_written : (area : SlotArea) (bytes : List ℕ) → IsKept area bytes → IsWhole area.end bytes → ((s : ℕ) → unwritten area s ≡ None) → (s : ℕ) → slot_of bytes s ≡ view area bytes s
all_written area bytes kept whole none s = ⊎_elim
    (λ (lt : s < area.end). sym (below_in area.end bytes s lt))
    (λ (past : area.end ≤ s). whole s past ∙ sym (below_out area.end bytes s past))
    (cases_lt s area.end)
    ∙ sym (kept.unchanged s (none s))

-- a free frame with a change has a settled note
pub free_settled : (settled note : ℕ) (f : Frame) → is_free settled f ≡ true → f.note ≡ Some note → note ≤ settled
free_settled settled note f free changed = leb-true note settled (sym (ap (is_settled settled) changed) ∙ free)

-- the slot of a placed frame has an entry in the table
pub placed_within : (places : List ℕ) (slot i : ℕ) → get_or places slot 0 ≡ i + 1 → slot < length places
placed_within places slot i is = ⊎_elim
    (λ (lt : slot < length places). lt)
    (λ (past : length places ≤ slot). absurd (let none = get_or_past places slot 0 past in omega (arith, none, is)))
    (cases_lt slot (length places))

-- where all notes are settled, each frame is free
pub all_free : (frames : List Frame) (places : List ℕ) (settled : ℕ) → ArePlaced frames places → ((k note : ℕ) → note_of (frame_of frames places k) ≡ Some note → note ≤ settled)
    → (i : ℕ) (f : Frame) → slice_get frames i ≡ Some f → is_free settled f ≡ true
all_free frames places settled placed each i f at = of f.note refl
  where
    of : (o : Option ℕ) → f.note ≡ o → is_free settled f ≡ true
    of None is = ap (is_settled settled) is
    of (Some n) is = ap (is_settled settled) is ∙ le-leb n settled (each f.slot n (ap note_of (is_placed frames places i f n placed at is) ∙ is))

-- where no frame has a change, no slot has one
pub none_changed : (frames : List Frame) (places : List ℕ) → ((i : ℕ) (f : Frame) → slice_get frames i ≡ Some f → f.note ≡ None) → (s : ℕ) → note_of (frame_of frames places s) ≡ None
none_changed frames places none s = of (get_or places s 0)
  where
    held : (i : ℕ) (o : Option Frame) → slice_get frames i ≡ o → note_of (with_slot s o) ≡ None
    held i None is = refl
    held i (Some f) is = with_none s f (none i f is)

    of : (p : ℕ) → note_of (with_slot s (frame_at frames p)) ≡ None
    of zero = refl
    of (suc i) = held i (slice_get frames i) refl

-- where a slot without a frame can be given one, some frame is free
pub free_from_ready : (o : Option Frame) (free : Bool) → o ≡ None → (is_some o || free) ≡ true → free ≡ true
free_from_ready None free none ready = ready
free_from_ready (Some f) free none ready = absurd (none-some f (sym none))

-- Runs of writes of area 0, and what each leaves of its slots.
use Rattle.std.proofs.Common.{◌≡◌, ◌≢◌, ◌⊎◌, ⊎_elim, inl, inr, ℕ, ◌+◌, ◌*◌, ◌<◌, ◌≤◌, Bool, List, length, Result, Ok, Err, OnOk, OnErr, sym, ◌∙◌, subst, arith}
use Rattle.std.proofs.lemmas.Bool.{cases_eq, cases_lt, cond-true, cond-false, lt-ltb, le-ltb}
use Rattle.std.proofs.lemmas.List.{ext_get_or}
use Rattle.storage.specs.Disk.{Reads, Torn, Stays, Others, HasCause}
use Rattle.storage.specs.Slots.{put}
use Rattle.log_meaning.specs.steps.Steps.{Image, Run}
use Rattle.log_meaning.proofs.StepsLemmas.Runs.{joined, holds}
use Rattle.log_meaning.specs.declared.note.Note.{Note}
use Rattle.log_meaning.specs.Images.{slot_of}
use Rattle.log_meaning.specs.LogState.{MayWrite, HasNotesTo, WritesNoted}
use Rattle.log_meaning.proofs.LogStates.{slot_same, torn_after_it, may_write, get_or-slot_of, length-slot_of}
use Rattle.log_meaning.proofs.Filling.{writes_twice}
use Rattle.log_meaning.proofs.Undone.{put-here, put-other}
use Rattle.slot_area.specs.Area.{zeros, below, IsWhole}

-- ---- runs in a row

pub more_written : (was mid now : ℕ) (before between after : ℕ → Image → Type 0) (e : ℕ) (bs : List (List Note))
    → ((image : Image) → before was image → 256 * e ≤ length (image 0)) → Run was mid before between (WritesNoted bs)
    → (((image : Image) → between mid image → 256 * e ≤ length (image 0)) → Run mid now between after (WritesNoted bs)) → Run was now before after (WritesNoted bs)
more_written was mid now before between after e bs there one two =
    joined _ _ _ _ _ _ (WritesNoted bs) (WritesNoted bs) (WritesNoted bs) one
    (two (λ image left. holds _ _ _ _ (WritesNoted bs) (λ x. 256 * e ≤ length (x 0)) one there (λ d x was step. let had = there d was in let grew = step.no_shorter in omega (arith, had, grew)) mid image one.later left))
    (λ d image was step. step) (λ d image was mid step. step) (λ d x image was a mid b. writes_twice bs d x image a b)

pub more_past : (was mid now : ℕ) (before between after : ℕ → Image → Type 0) → Run was mid before between (Others 0) → Run mid now between after (Others 0) → Run was now before after (Others 0)
more_past was mid now before between after one two = joined _ _ _ _ _ _ (Others 0) (Others 0) (Others 0) one two (λ d image there step. step) (λ d image there m step. step) (λ d e image there a m b k other. b k other ∙ a k other)

-- calls that have succeeded, and one more
pub more_cause : (was mid now : ℕ) (ok : Bool) → mid ≡ was → HasCause mid now ok → HasCause was now ok
more_cause was mid now ok same cause = subst (λ (n : ℕ). HasCause n now ok) same cause

-- ---- a write of a slot

-- a write of a slot that the area reaches changes no other slot, also where it fails
pub torn_elsewhere : (slot n s : ℕ) (old new : List ℕ) → n ≡ 256 → Torn (256 * slot) n old new → 256 * slot ≤ length old → s ≢ slot → slot_of new s ≡ slot_of old s
torn_elsewhere slot n s old new is torn reaches ne = slot_same old new s (λ i from to. ⊎_elim
    (λ (before : s < slot). torn.below i (omega (arith, before, to, reaches)) (omega (arith, before, to)))
    (λ (after : slot ≤ s). torn_after_it (256 * slot) n old new torn i (let more = beyond after in omega (arith, more, from, is)))
    (cases_lt s slot))
  where
    beyond : slot ≤ s → slot + 1 ≤ s
    beyond from = ⊎_elim (λ (more : slot < s). omega (arith, more)) (λ (le : s ≤ slot). absurd (ne (omega (arith, le, from)))) (cases_lt slot s)

-- ---- the slots below the end

pub below_in : (end : ℕ) (zero : List ℕ) (s : ℕ) → s < end → below end zero s ≡ slot_of zero s
below_in end zero s lt = cond-true _ _ _ (lt-ltb s end lt)

pub below_out : (end : ℕ) (zero : List ℕ) (s : ℕ) → end ≤ s → below end zero s ≡ zeros
below_out end zero s le = cond-false _ _ _ (le-ltb s end le)

-- a slot from the end on may be written where the slot of the write is noted
pub may_before : (extent end : ℕ) (bs : List (List Note)) (slot k : ℕ) → extent ≤ end → HasNotesTo extent bs slot → end ≤ k → k < slot → MayWrite extent bs (256 * k) 256
may_before extent end bs slot k within has from lt = may_write extent bs k (record {
  own = has.gap k (omega (arith, within, from)) lt;
  gap = λ j start before. has.gap j start (omega (arith, before, lt));
})

-- The slots up to this one got zeros, and then the slot its bytes.
module _ (end next slot : ℕ) (z mid new : List ℕ) (bytes : List ℕ) (grows : ((slot < end) × (next ≡ end)) ⊎ ((end ≤ slot) × (next ≡ slot + 1))) (same : (s : ℕ) → s < end → slot_of mid s ≡ slot_of z s) (zeroed : (s : ℕ) → end ≤ s → s < slot → slot_of mid s ≡ zeros)
    (wrote : (s : ℕ) → slot_of new s ≡ put (slot_of mid) slot bytes s) where
  low : (s : ℕ) → s < next → s ≢ slot → s < slot ⊎ (s < end)
  low s lt ne = ⊎_elim
      (λ (g : (slot < end) × (next ≡ end)). inr (let is = g.1 in omega (arith, is, lt)))
      (λ (g : (end ≤ slot) × (next ≡ slot + 1)). ⊎_elim (λ (l : s < slot). inl l) (λ (from : slot ≤ s). absurd (ne (let is = g.1 in omega (arith, is, lt, from)))) (cases_lt s slot))
      grows

  reaches : (slot < next) × (end ≤ next)
  reaches = ⊎_elim
      (λ (g : (slot < end) × (next ≡ end)). (let is = g.1 in let l = g.0 in (omega (arith, is, l), omega (arith, is))))
      (λ (g : (end ≤ slot) × (next ≡ slot + 1)). (let is = g.1 in let l = g.0 in (omega (arith, is), omega (arith, is, l))))
      grows

  middle : (s : ℕ) → s < next → s ≢ slot → slot_of mid s ≡ below end z s
  middle s lt ne = ⊎_elim
      (λ (within : s < end). same s within ∙ sym (below_in end z s within))
      (λ (past : end ≤ s). ⊎_elim (λ (before : s < slot). zeroed s past before) (λ (in_it : s < end). absurd (omega (arith, in_it, past))) (low s lt ne) ∙ sym (below_out end z s past))
      (cases_lt s end)

  pub below_after : (s : ℕ) → below next new s ≡ put (below end z) slot bytes s
  below_after s = elim (cases_eq s slot) [
    | inl here ↦ below_in next new s (let r = reaches.0 in omega (arith, here, r)) ∙ wrote s ∙ put-here (slot_of mid) slot s bytes here ∙ sym (put-here (below end z) slot s bytes here)
    | inr other ↦ ⊎_elim
        (λ (lt : s < next). below_in next new s lt ∙ wrote s ∙ put-other (slot_of mid) slot s bytes other ∙ middle s lt other)
        (λ (past : next ≤ s). below_out next new s past ∙ sym (below_out end z s (let r = reaches.1 in omega (arith, r, past))))
        (cases_lt s next)
        ∙ sym (put-other (below end z) slot s bytes other)
  ]

  pub whole_after : ((s : ℕ) → slot ≤ s → slot_of mid s ≡ slot_of z s) → IsWhole end z → IsWhole next new
  whole_after stays whole s past =
      let r = reaches.0 in
      let l = reaches.1 in
      let apart : s ≢ slot = λ e. omega (arith, e, r, past) in
      wrote s ∙ put-other (slot_of mid) slot s bytes apart ∙ stays s (omega (arith, r, past)) ∙ whole s (omega (arith, l, past))

-- a failed write leaves each slot below the end but its own
pub below_failed : (end slot : ℕ) (z new : List ℕ) → ((s : ℕ) → s < end → s ≢ slot → slot_of new s ≡ slot_of z s) → (s : ℕ) → s ≢ slot → below end new s ≡ below end z s
below_failed end slot z new same s ne = ⊎_elim
    (λ (lt : s < end). below_in end new s lt ∙ same s lt ne ∙ sym (below_in end z s lt))
    (λ (past : end ≤ s). below_out end new s past ∙ sym (below_out end z s past))
    (cases_lt s end)

pub ok_then : {T E : Type 0} (r : Result T E) (P Q : Type 0) → OnOk r P → (P → Q) → OnOk r Q
ok_then (Ok x) P Q p f = f p
ok_then (Err e) P Q p f = tt

-- bytes that were read there are the slot
pub bytes_read : (area : List ℕ) (s : ℕ) (bytes : List ℕ) → length bytes ≡ 256 → Reads area (256 * s) bytes → bytes ≡ slot_of area s
bytes_read area s bytes long r = ext_get_or 0 bytes (slot_of area s) (long ∙ sym (length-slot_of area s)) (λ i lt. r i lt ∙ sym (get_or-slot_of area s i (omega (arith, lt, long))))

-- ---- a call that makes no moment, and then a run

pub stays_then : {known still : Bool} {seen now_seen : Image} (was mid now : ℕ) (before between after : ℕ → Image → Type 0) → Stays known still seen now_seen was mid before between
    → (Step : Image → Image → Type 0) → Run mid now between after Step → Run was now before after Step
stays_then was mid now before between after rest Step two = record {
  later = (let same = rest.moment in omega (arith, same, two.later));
  nothing_else = λ m image le left. rest.nothing_else m image (two.nothing_else m image (let same = rest.moment in omega (arith, same, le)) left);
  stays = λ m image le left. two.stays m image (let same = rest.moment in omega (arith, same, le)) (rest.stays m image left);
  here = λ m image later left.
      let h = two.here m image (let same = rest.moment in omega (arith, same, later)) left in
      (h.0, subst (λ (k : ℕ). before k (h.0)) rest.moment (rest.nothing_else mid (h.0) (h.1)), h.2);
}

pub stays_there : {known still : Bool} {seen now_seen : Image} (was mid : ℕ) (before between : ℕ → Image → Type 0) → Stays known still seen now_seen was mid before between
    → (e : ℕ) → ((image : Image) → before was image → 256 * e ≤ length (image 0)) → (image : Image) → between mid image → 256 * e ≤ length (image 0)
stays_there was mid before between rest e there image left = there image (subst (λ (k : ℕ). before k image) rest.moment (rest.nothing_else mid image left))

pub on_err_any : {T E : Type 0} (r : Result T E) (P : Type 0) → P → OnErr r P
on_err_any (Ok x) P p = tt
on_err_any (Err e) P p = p

-- What slots read, once a frame is set and area 0 has changed in one slot.
use Rattle.std.proofs.Common.{◌≡◌, ◌≢◌, inl, inr, ⊎_elim, ℕ, ◌==◌, if◌then◌else◌, true, List, Option, Some, None, is_some, refl, sym, ◌∙◌, ap, subst, ◌<◌, ◌≤◌, arith}
use Rattle.std.specs.Option.{option_map}
use Rattle.std.proofs.lemmas.Bool.{cases_eq, true≢false}
use Rattle.std.proofs.lemmas.Option.{none-some, same_Some}
use Rattle.storage.specs.Slots.{put}
use Rattle.log_meaning.proofs.Undone.{put-here, put-other}
use Rattle.slot_area.specs.declared.frame.Frame.{Frame}
use Rattle.slot_area.specs.Frames.{note_of, Sets}
use Rattle.slot_area.specs.Area.{bytes_or, StaysOrEnds}

-- Slots with the frames F over these bytes b. Then the frame of one slot is set, and the bytes b' below differ in that slot at most.
module _ (F G : ℕ → Option Frame) (b c : ℕ → List ℕ) (slot : ℕ) (x : Frame) (sets : Sets slot x F G) (same : (s : ℕ) → s ≢ slot → c s ≡ b s) (kept : (s : ℕ) → note_of (F s) ≡ None → bytes_or (b s) (F s) ≡ b s) where
  pub seen_here : bytes_or (c slot) (G slot) ≡ x.bytes
  seen_here = ap (bytes_or (c slot)) sets.here

  pub seen_others : (s : ℕ) → s ≢ slot → bytes_or (c s) (G s) ≡ bytes_or (b s) (F s)
  seen_others s ne = ⊎_elim
      (λ (e : G s ≡ F s). ap (bytes_or (c s)) e ∙ ap (λ (l : List ℕ). bytes_or l (F s)) (same s ne))
      (λ (e : (G s ≡ None) × (note_of (F s) ≡ None)). ap (bytes_or (c s)) (e.0) ∙ same s ne ∙ sym (kept s (e.1)))
      (sets.others s ne)

  kept_others : (s : ℕ) → s ≢ slot → note_of (G s) ≡ None → bytes_or (c s) (G s) ≡ c s
  kept_others s ne none = ⊎_elim
      (λ (e : G s ≡ F s). ap (bytes_or (c s)) e ∙ ap (λ (l : List ℕ). bytes_or l (F s)) (same s ne) ∙ kept s (sym (ap note_of e) ∙ none) ∙ sym (same s ne))
      (λ (e : (G s ≡ None) × (note_of (F s) ≡ None)). ap (bytes_or (c s)) (e.0))
      (sets.others s ne)

  -- the slot reads the bytes of its frame, and each other slot what it read
  pub seen_put : (s : ℕ) → bytes_or (c s) (G s) ≡ put (λ k. bytes_or (b k) (F k)) slot x.bytes s
  seen_put s = elim (cases_eq s slot) [
    | inl here ↦ subst (λ (k : ℕ). bytes_or (c k) (G k) ≡ x.bytes) (sym here) seen_here ∙ sym (put-here (λ k. bytes_or (b k) (F k)) slot s x.bytes here)
    | inr other ↦ seen_others s other ∙ sym (put-other (λ k. bytes_or (b k) (F k)) slot s x.bytes other)
  ]

  -- each slot reads what it read, if the slot did
  pub seen_same : x.bytes ≡ bytes_or (b slot) (F slot) → (s : ℕ) → bytes_or (c s) (G s) ≡ bytes_or (b s) (F s)
  seen_same own s = elim (cases_eq s slot) [
    | inl here ↦ subst (λ (k : ℕ). bytes_or (c k) (G k) ≡ bytes_or (b k) (F k)) (sym here) (seen_here ∙ own)
    | inr other ↦ seen_others s other
  ]

  -- each slot without a change has the bytes below, if the slot has
  pub kept_after : (x.note ≡ None → x.bytes ≡ c slot) → (s : ℕ) → note_of (G s) ≡ None → bytes_or (c s) (G s) ≡ c s
  kept_after own s none = elim (cases_eq s slot) [
    | inl here ↦
        let none_here : x.note ≡ None = sym (ap note_of sets.here) ∙ subst (λ (k : ℕ). note_of (G k) ≡ None) here none in
        subst (λ (k : ℕ). bytes_or (c k) (G k) ≡ c k) (sym here) (seen_here ∙ own none_here)
    | inr other ↦ kept_others s other none
  ]

-- what is changed, once the frame of one slot is set
module _ (F G : ℕ → Option Frame) (slot : ℕ) (x : Frame) (sets : Sets slot x F G) where
  pub note_here : note_of (G slot) ≡ x.note
  note_here = ap note_of sets.here

  pub note_others : (s : ℕ) → s ≢ slot → StaysOrEnds (λ k. note_of (F k)) (λ k. note_of (G k)) s
  note_others s ne = ⊎_elim
      (λ (e : G s ≡ F s). inl (ap note_of e))
      (λ (e : (G s ≡ None) × (note_of (F s) ≡ None)). inr (ap note_of (e.0)))
      (sets.others s ne)

  -- where the slot has no change now
  pub note_ends : x.note ≡ None → (s : ℕ) → StaysOrEnds (λ k. note_of (F k)) (λ k. note_of (G k)) s
  note_ends none s = elim (cases_eq s slot) [
    | inl here ↦ inr (subst (λ (k : ℕ). note_of (G k) ≡ None) (sym here) (note_here ∙ none))
    | inr other ↦ note_others s other
  ]

  pub absent_after : (f : Frame) → F slot ≡ Some f → (s : ℕ) → F s ≡ None → G s ≡ None
  absent_after f there s none = elim (cases_eq s slot) [
    | inl here ↦ absurd (none-some f (sym none ∙ ap F here ∙ there))
    | inr other ↦ ⊎_elim (λ (e : G s ≡ F s). e ∙ none) (λ (e : (G s ≡ None) × (note_of (F s) ≡ None)). e.0) (sets.others s other)
  ]

  -- only the slot that is set loses its change
  pub gone_here : (k note : ℕ) → note_of (F k) ≡ Some note → note_of (G k) ≡ None → k ≡ slot
  gone_here k note was gone = elim (cases_eq k slot) [
    | inl here ↦ here
    | inr other ↦
        ⊎_elim
        (λ (e : G k ≡ F k). absurd (none-some note (sym gone ∙ ap note_of e ∙ was)))
        (λ (e : (G k ≡ None) × (note_of (F k) ≡ None)). absurd (none-some note (sym (e.1) ∙ was)))
        (sets.others k other)
  ]

-- a failed write of a changed slot is not seen
module _ (F : ℕ → Option Frame) (b c : ℕ → List ℕ) (slot : ℕ) (f : Frame) (note : ℕ) (there : F slot ≡ Some f) (changed : f.note ≡ Some note) (same : (s : ℕ) → s ≢ slot → c s ≡ b s) where
  pub seen_failed : (s : ℕ) → bytes_or (c s) (F s) ≡ bytes_or (b s) (F s)
  seen_failed s = elim (cases_eq s slot) [
    | inl here ↦ ap (bytes_or (c s)) (ap F here ∙ there) ∙ sym (ap (bytes_or (b s)) (ap F here ∙ there))
    | inr other ↦ ap (λ (l : List ℕ). bytes_or l (F s)) (same s other)
  ]

  pub kept_failed : ((s : ℕ) → note_of (F s) ≡ None → bytes_or (b s) (F s) ≡ b s) → (s : ℕ) → note_of (F s) ≡ None → bytes_or (c s) (F s) ≡ c s
  kept_failed kept s none = elim (cases_eq s slot) [
    | inl here ↦ absurd (none-some note (sym none ∙ ap note_of (ap F here ∙ there) ∙ changed))
    | inr other ↦ seen_failed s ∙ kept s none ∙ sym (same s other)
  ]

-- a change stays or ends twice
pub ends_twice : (p q r : ℕ → Option ℕ) (s : ℕ) → StaysOrEnds p q s → StaysOrEnds q r s → StaysOrEnds p r s
ends_twice p q r s one two = ⊎_elim
    (λ (stays : r s ≡ q s). ⊎_elim (λ (e : q s ≡ p s). inl (stays ∙ e)) (λ (e : q s ≡ None). inr (stays ∙ e)) one)
    (λ (ended : r s ≡ None). inr ended)
    two

-- a change that is gone after two steps is below the end by then
pub stored_twice : (p q r : ℕ → Option ℕ) (k note a b : ℕ) → a ≤ b → StaysOrEnds p q k → (p k ≡ Some note → q k ≡ None → k < a) → ((m : ℕ) → q k ≡ Some m → r k ≡ None → k < b)
    → p k ≡ Some note → r k ≡ None → k < b
stored_twice p q r k note a b le step one two was gone = ⊎_elim
    (λ (stays : q k ≡ p k). two note (stays ∙ was) gone)
    (λ (ended : q k ≡ None). let low = one was ended in omega (arith, low, le))
    step

-- what is changed after it was changed before, with the same note
pub was_changed : (p q : ℕ → Option ℕ) (s note : ℕ) → StaysOrEnds p q s → q s ≡ Some note → p s ≡ Some note
was_changed p q s note step is = ⊎_elim (λ (e : q s ≡ p s). sym e ∙ is) (λ (e : q s ≡ None). absurd (none-some note (sym e ∙ is))) step

-- ---- what a look-up of the frame says of the slot

pub seen_found : (o : Option Frame) (b bytes : List ℕ) → option_map (λ (f : Frame). f.bytes) o ≡ Some bytes → bytes_or b o ≡ bytes
seen_found None b bytes is = absurd (none-some bytes is)
seen_found (Some f) b bytes is = same_Some f.bytes bytes is

pub some_found : (o : Option Frame) (bytes : List ℕ) → option_map (λ (f : Frame). f.bytes) o ≡ Some bytes → is_some o ≡ true
some_found None bytes is = absurd (none-some bytes is)
some_found (Some f) bytes is = refl

pub none_found : (o : Option Frame) → option_map (λ (f : Frame). f.bytes) o ≡ None → o ≡ None
none_found None is = refl
none_found (Some f) is = absurd (none-some f.bytes (sym is))

pub has_note : (o : Option ℕ) → is_some o ≡ true → (n : ℕ) × (o ≡ Some n)
has_note None is = absurd (true≢false (sym is))
has_note (Some n) is = (n, refl)

-- puts into slots that read the same
pub put_cong : (f h : ℕ → List ℕ) (at k : ℕ) (bytes : List ℕ) → f k ≡ h k → put f at bytes k ≡ put h at bytes k
put_cong f h at k bytes same = ap (λ (l : List ℕ). if k == at then bytes else l) same

-- what is put where it was read changes nothing
pub put_read : (f : ℕ → List ℕ) (at k : ℕ) (bytes : List ℕ) → bytes ≡ f at → put f at bytes k ≡ f k
put_read f at k bytes is = elim (cases_eq k at) [
  | inl here ↦ put-here f at k bytes here ∙ is ∙ ap f (sym here)
  | inr other ↦ put-other f at k bytes other
]

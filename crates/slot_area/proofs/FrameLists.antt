-- Frames in a list, and the table of their places.
use Rattle.std.proofs.Common.{◌≡◌, ◌≢◌, ◌⊎◌, inl, inr, ⊎_elim, ℕ, zero, suc, ◌+◌, ◌<◌, ◌==◌, true, false, List, [], ◌∷◌, length, get_or, slice_set, ◌++◌, Option, Some, None, IfSome, IfNone, is_some, refl, sym, ◌∙◌, ap, subst, arith, eq-eqb}
use Rattle.std.specs.List.{slice_get, list_any, AllByRecursion}
use Rattle.std.proofs.lemmas.Bool.{cases_eq, cases_Bool, ne_eqb, eqb-true, or_left, or_right, or_from, cond-true, cond-false}
use Rattle.std.proofs.lemmas.List.{get_or-set_same, get_or-set_other, length-set}
use Rattle.std.proofs.lemmas.Option.{slice_get_within, none-some, same_Some, cond_some}
use Rattle.slot_area.specs.declared.frame.Frame.{Frame}
use Rattle.slot_area.specs.Frames.{note_of, is_settled, is_free, with_slot, frame_at, frame_of, ArePlaced, Sets, SameBut}

-- ---- one frame of a list becomes another

pub get_set_same : (xs : List Frame) (i : ℕ) (f : Frame) → i < length xs → slice_get (slice_set xs i f) i ≡ Some f
get_set_same [] i f lt = absurd (omega arith)
get_set_same (x ∷ xs) zero f lt = refl
get_set_same (x ∷ xs) (suc i) f lt = get_set_same xs i f (omega arith)

pub get_set_other : (xs : List Frame) (i j : ℕ) (f : Frame) → j ≢ i → slice_get (slice_set xs i f) j ≡ slice_get xs j
get_set_other [] i j f ne = refl
get_set_other (x ∷ xs) zero zero f ne = absurd (ne refl)
get_set_other (x ∷ xs) zero (suc j) f ne = refl
get_set_other (x ∷ xs) (suc i) zero f ne = refl
get_set_other (x ∷ xs) (suc i) (suc j) f ne = get_set_other xs i j f (λ e. ne (ap suc e))

-- ---- a frame with a slot

pub with_own : (slot : ℕ) (f : Frame) → f.slot ≡ slot → with_slot slot (Some f) ≡ Some f
with_own slot f is = cond-true (f.slot == slot) (Some f) None (eq-eqb f.slot slot is)

pub with_other : (slot : ℕ) (f : Frame) → f.slot ≢ slot → with_slot slot (Some f) ≡ None
with_other slot f ne = cond-false (f.slot == slot) (Some f) None (ne_eqb f.slot slot ne)

pub with_some : (slot : ℕ) (o : Option Frame) (f : Frame) → with_slot slot o ≡ Some f → (o ≡ Some f) × (f.slot ≡ slot)
with_some slot None f h = absurd (none-some f h)
with_some slot (Some x) f h =
    let p = cond_some (x.slot == slot) x f h in
    (ap Some p.1, subst (λ (y : Frame). y.slot ≡ slot) p.1 (eqb-true x.slot slot p.0))

pub with_none_of : (slot : ℕ) (o : Option Frame) → ((f : Frame) → o ≡ Some f → f.slot ≢ slot) → with_slot slot o ≡ None
with_none_of slot None apart = refl
with_none_of slot (Some f) apart = with_other slot f (apart f refl)

-- a frame without a change shows none, whichever slot is asked for
pub with_none : (slot : ℕ) (f : Frame) → f.note ≡ None → note_of (with_slot slot (Some f)) ≡ None
with_none slot f none = elim (cases_Bool (f.slot == slot)) [
  | inl same ↦ ap note_of (cond-true (f.slot == slot) (Some f) None same) ∙ none
  | inr apart ↦ ap note_of (cond-false (f.slot == slot) (Some f) None apart)
]

-- ---- the frame of a slot

pub at_place : (frames : List Frame) (places : List ℕ) (slot i : ℕ) → get_or places slot 0 ≡ i + 1 → frame_of frames places slot ≡ with_slot slot (slice_get frames i)
at_place frames places slot i is = ap (λ (p : ℕ). with_slot slot (frame_at frames p)) (is ∙ next)
  where
    next : i + 1 ≡ suc i
    next = omega arith

pub no_place : (frames : List Frame) (places : List ℕ) (slot : ℕ) → get_or places slot 0 ≡ 0 → frame_of frames places slot ≡ None
no_place frames places slot is = ap (λ (p : ℕ). with_slot slot (frame_at frames p)) is

-- no frame of the list has the slot, so no place of a table leads to one
pub no_frame : (frames : List Frame) (slot place : ℕ) → ((i : ℕ) (f : Frame) → slice_get frames i ≡ Some f → f.slot ≢ slot) → with_slot slot (frame_at frames place) ≡ None
no_frame frames slot zero apart = refl
no_frame frames slot (suc i) apart = with_none_of slot (slice_get frames i) (apart i)

-- a changed frame is that of its slot
pub is_placed : (frames : List Frame) (places : List ℕ) (i : ℕ) (f : Frame) (note : ℕ) → ArePlaced frames places → slice_get frames i ≡ Some f → f.note ≡ Some note → frame_of frames places f.slot ≡ Some f
is_placed frames places i f note placed at changed = at_place frames places f.slot i (placed i f note at changed) ∙ ap (with_slot f.slot) at ∙ with_own f.slot f refl

-- ---- the frame of a slot becomes another one of the same slot

module _ (frames : List Frame) (places : List ℕ) (slot i : ℕ) (f x : Frame) (at : slice_get frames i ≡ Some f) (was : f.slot ≡ slot) (own : x.slot ≡ slot) where
  others_same : (k p : ℕ) → k ≢ slot → with_slot k (frame_at (slice_set frames i x) p) ≡ with_slot k (frame_at frames p)
  others_same k zero ne = refl
  others_same k (suc j) ne = elim (cases_eq j i) [
    | inl here ↦
        ap (λ (n : ℕ). with_slot k (slice_get (slice_set frames i x) n)) here ∙ ap (with_slot k) (get_set_same frames i x (slice_get_within frames i f at)) ∙ with_other k x (λ e. ne (sym e ∙ own))
        ∙ sym (ap (λ (n : ℕ). with_slot k (slice_get frames n)) here ∙ ap (with_slot k) at ∙ with_other k f (λ e. ne (sym e ∙ was)))
    | inr other ↦ ap (with_slot k) (get_set_other frames i j x other)
  ]

  pub sets_own : get_or places slot 0 ≡ i + 1 → Sets slot x (frame_of frames places) (frame_of (slice_set frames i x) places)
  sets_own place = record {
    here = at_place (slice_set frames i x) places slot i place ∙ ap (with_slot slot) (get_set_same frames i x (slice_get_within frames i f at)) ∙ with_own slot x own;
    others = λ k ne. inl (others_same k (get_or places k 0) ne);
  }

  pub placed_own : get_or places slot 0 ≡ i + 1 → ArePlaced frames places → ArePlaced (slice_set frames i x) places
  placed_own place placed j y note there changed = elim (cases_eq j i) [
    | inl here ↦
        let is : x ≡ y = same_Some x y (sym (get_set_same frames i x (slice_get_within frames i f at)) ∙ sym (ap (slice_get (slice_set frames i x)) here) ∙ there) in
        ap (λ (z : Frame). get_or places z.slot 0) (sym is) ∙ ap (λ (n : ℕ). get_or places n 0) own ∙ place ∙ ap (λ (n : ℕ). n + 1) (sym here)
    | inr other ↦ placed j y note (sym (get_set_other frames i j x other) ∙ there) changed
  ]

-- ---- a frame without a change is given to another slot

module _ (frames : List Frame) (places : List ℕ) (i : ℕ) (f x : Frame) (at : slice_get frames i ≡ Some f) (within : x.slot < length places) where
  others_replaced : (k p : ℕ) → f.note ≡ None → k ≢ x.slot
      → (with_slot k (frame_at (slice_set frames i x) p) ≡ with_slot k (frame_at frames p)) ⊎ ((with_slot k (frame_at (slice_set frames i x) p) ≡ None) × (note_of (with_slot k (frame_at frames p)) ≡ None))
  others_replaced k zero none ne = inl refl
  others_replaced k (suc j) none ne = elim (cases_eq j i) [
    | inl here ↦ inr (
      ap (λ (n : ℕ). with_slot k (slice_get (slice_set frames i x) n)) here ∙ ap (with_slot k) (get_set_same frames i x (slice_get_within frames i f at)) ∙ with_other k x (λ e. ne (sym e)),
      ap (λ (n : ℕ). note_of (with_slot k (slice_get frames n))) here ∙ ap (λ (o : Option Frame). note_of (with_slot k o)) at ∙ with_none k f none,
    )
    | inr other ↦ inl (ap (with_slot k) (get_set_other frames i j x other))
  ]

  pub sets_replaced : f.note ≡ None → Sets x.slot x (frame_of frames places) (frame_of (slice_set frames i x) (slice_set places x.slot (i + 1)))
  sets_replaced none = record {
    here = at_place (slice_set frames i x) (slice_set places x.slot (i + 1)) x.slot i (get_or-set_same places x.slot (i + 1) 0 within)
        ∙ ap (with_slot x.slot) (get_set_same frames i x (slice_get_within frames i f at)) ∙ with_own x.slot x refl;
    others = λ k ne.
        let same : get_or (slice_set places x.slot (i + 1)) k 0 ≡ get_or places k 0 = get_or-set_other places x.slot k (i + 1) 0 ne in
        subst (λ (p : ℕ). (with_slot k (frame_at (slice_set frames i x) p) ≡ with_slot k (frame_at frames (get_or places k 0))) ⊎ ((with_slot k (frame_at (slice_set frames i x) p) ≡ None) × (note_of (with_slot k (frame_at frames (get_or places k 0))) ≡ None)))
        (sym same) (others_replaced k (get_or places k 0) none ne);
  }

  pub placed_replaced : frame_of frames places x.slot ≡ None → ArePlaced frames places → ArePlaced (slice_set frames i x) (slice_set places x.slot (i + 1))
  placed_replaced absent placed j y note there changed = elim (cases_eq j i) [
    | inl here ↦
        let is : x ≡ y = same_Some x y (sym (get_set_same frames i x (slice_get_within frames i f at)) ∙ sym (ap (slice_get (slice_set frames i x)) here) ∙ there) in
        ap (λ (z : Frame). get_or (slice_set places x.slot (i + 1)) z.slot 0) (sym is) ∙ get_or-set_same places x.slot (i + 1) 0 within ∙ ap (λ (n : ℕ). n + 1) (sym here)
    | inr other ↦
        let was : slice_get frames j ≡ Some y = sym (get_set_other frames i j x other) ∙ there in
        let apart : y.slot ≢ x.slot = λ e. none-some y (sym absent ∙ ap (frame_of frames places) (sym e) ∙ is_placed frames places j y note placed was changed) in
        get_or-set_other places x.slot y.slot (i + 1) 0 apart ∙ placed j y note was changed
  ]

pub same_but : (frames : List Frame) (i : ℕ) (x : Frame) → SameBut i frames (slice_set frames i x)
same_but frames i x = λ j ne. get_set_other frames i j x ne

-- ---- whether some frame is free

pub free_at : (settled : ℕ) (frames : List Frame) (i : ℕ) (f : Frame) → slice_get frames i ≡ Some f → is_free settled f ≡ true → list_any (is_free settled) frames ≡ true
free_at settled [] i f at free = absurd (none-some f at)
free_at settled (x ∷ xs) zero f at free = or_left (is_free settled x) (list_any (is_free settled) xs) (ap (is_free settled) (same_Some x f at) ∙ free)
free_at settled (x ∷ xs) (suc i) f at free = or_right (is_free settled x) (list_any (is_free settled) xs) (free_at settled xs i f at free)

pub none_free : (settled : ℕ) (frames : List Frame) → ((i : ℕ) (f : Frame) → slice_get frames i ≡ Some f → is_free settled f ≡ false) → list_any (is_free settled) frames ≡ false
none_free settled [] none = refl
none_free settled (x ∷ xs) none = or_from (is_free settled x) (list_any (is_free settled) xs) (none zero x refl) (none_free settled xs (λ i f at. none (suc i) f at))

-- a search that finds a free frame exactly where there is one
pub found_by : (settled : ℕ) (frames : List Frame) (r : Option ℕ) → IfSome r (λ i. (f : Frame) × (slice_get frames i ≡ Some f) × (is_free settled f ≡ true)) → IfNone r ((i : ℕ) (f : Frame) → slice_get frames i ≡ Some f → is_free settled f ≡ false) → is_some r ≡ list_any (is_free settled) frames
found_by settled frames (Some i) found none = sym (free_at settled frames i found.0 found.1 found.2)
found_by settled frames None found none = sym (none_free settled frames none)

pub none_then : (r : Option ℕ) (P Q : Type 0) → IfNone r P → (P → Q) → IfNone r Q
none_then None P Q p f = f p
none_then (Some i) P Q p f = tt

-- the first of some frames, if all of them are free
pub first_free : (settled : ℕ) (frames : List Frame) → 0 < length frames → ((i : ℕ) (f : Frame) → slice_get frames i ≡ Some f → is_free settled f ≡ true) → list_any (is_free settled) frames ≡ true
first_free settled [] some each = absurd (omega arith)
first_free settled (x ∷ xs) some each = or_left (is_free settled x) (list_any (is_free settled) xs) (each zero x refl)

-- what one more frame adds
pub get_push : (xs : List Frame) (x : Frame) (k : ℕ) (f : Frame) → slice_get (xs ++ x ∷ []) k ≡ Some f → (slice_get xs k ≡ Some f) ⊎ (f ≡ x)
get_push [] x zero f at = inr (sym (same_Some x f at))
get_push [] x (suc k) f at = absurd (none-some f at)
get_push (y ∷ ys) x zero f at = inl at
get_push (y ∷ ys) x (suc k) f at = get_push ys x k f at

-- frames of which none has a change are placed in any table, and free
pub placed_blank : (frames : List Frame) (places : List ℕ) → ((i : ℕ) (f : Frame) → slice_get frames i ≡ Some f → f.note ≡ None) → ArePlaced frames places
placed_blank frames places none i f note at changed = absurd (none-some note (sym (none i f at) ∙ changed))

pub free_blank : (settled : ℕ) (frames : List Frame) → 0 < length frames → ((i : ℕ) (f : Frame) → slice_get frames i ≡ Some f → f.note ≡ None) → list_any (is_free settled) frames ≡ true
free_blank settled frames some none = first_free settled frames some (λ i f at. ap (is_settled settled) (none i f at))

-- numbers that are all zero
pub get_zeros : (C : ℕ → Type 0) (ys : List ℕ) (i : ℕ) → ((y : ℕ) → C y → y ≡ 0) → AllByRecursion (λ y. (y ≡ 0) ⊎ C y) ys → get_or ys i 0 ≡ 0
get_zeros C [] i same all = refl
get_zeros C (y ∷ ys) zero same all = ⊎_elim (λ (e : y ≡ 0). e) (λ (h : C y). same y h) (all.0)
get_zeros C (y ∷ ys) (suc i) same all = get_zeros C ys i same (all.1)

pub frame_there : (frames : List Frame) (i : ℕ) → i < length frames → (f : Frame) × (slice_get frames i ≡ Some f)
frame_there [] i lt = absurd (omega arith)
frame_there (x ∷ xs) zero lt = (x, refl)
frame_there (x ∷ xs) (suc i) lt = frame_there xs i (omega arith)

-- a frame becomes one without a change
pub placed_unchanged : (frames : List Frame) (places : List ℕ) (i : ℕ) (x : Frame) → x.note ≡ None → ArePlaced frames places → ArePlaced (slice_set frames i x) places
placed_unchanged frames places i x none placed j y note there changed = elim (cases_eq j i) [
  | inl here ↦
      let within : i < length frames = (let l = slice_get_within (slice_set frames i x) j y there in omega (arith, l, here, length-set frames i x)) in
      let is : x ≡ y = same_Some x y (sym (get_set_same frames i x within) ∙ sym (ap (slice_get (slice_set frames i x)) here) ∙ there) in
      absurd (none-some note (sym none ∙ ap (λ (z : Frame). z.note) is ∙ changed))
  | inr other ↦ placed j y note (sym (get_set_other frames i j x other) ∙ there) changed
]

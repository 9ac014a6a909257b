-- Area 0's end: notes for the slots that a write skips, and writes of slots that have notes.
use Rattle.std.proofs.Common.{◌≡◌, ◌≢◌, inl, inr, ⊎_elim, ℕ, ◌+◌, ◌-◌, ◌*◌, ◌<◌, ◌≤◌, Bool, ◌||◌, List, [], ◌∷◌, ◌++◌, length, get_or, refl, sym, ◌∙◌, ap, subst, arith}
use Rattle.std.proofs.lemmas.Bool.{cases_Bool, cases_eq, cases_lt, cond-true, cond-false}
use Rattle.std.proofs.lemmas.List.{ext_get_or}
use Rattle.storage.specs.Disk.{TornIn, overlaid}
use Rattle.storage.specs.declared.slots.Undo.{Undo}
use Rattle.storage.specs.Slots.{put}
use Rattle.log_meaning.specs.steps.Steps.{Image}
use Rattle.log_meaning.proofs.StepsLemmas.Writes.{overlaid-here, overlaid-before, overlaid-after}
use Rattle.log_meaning.specs.declared.note.Change.{Change}
use Rattle.log_meaning.specs.declared.note.Note.{Note}
use Rattle.log_meaning.specs.declared.note.Note.TheVariants.{Change as Changed, Commit}
use Rattle.log_meaning.specs.Recovered.{changes_of, is_committed, given}
use Rattle.log_meaning.specs.Images.{HoldsLog, slot_of}
use Rattle.log_meaning.specs.LogState.{notes_in, LogState, MayWrite, IsFilled, WritesNoted}
use Rattle.log_meaning.specs.Logged.{given_with, Logged}
use Rattle.log_meaning.proofs.Notes.{changes_of-here, changes_of-other, changes_of-commit}
use Rattle.log_meaning.proofs.Undone.{put-here, put-other}
use Rattle.log_meaning.proofs.LoggedSteps.{stays, other_slot, not_empty}
use Rattle.log_meaning.proofs.LogStates.{slot_same, may_write, torn_after_it, get_or-slot_of, length-slot_of, other_of, same_newest}

-- ---- notes for slots that a write skips

-- A note that changes nothing, of a slot without one, counts nowhere: whichever transaction's number it has.
pub skips : (notes : List Note) (base committed reads : ℕ → List ℕ) (live : ℕ → Bool) (undo : ℕ → List Undo) (c : Change)
    → Logged notes base committed reads live undo → changes_of c.slot notes ≡ [] → c.old ≡ reads c.slot → c.new ≡ c.old
    → Logged (notes ++ Changed c ∷ []) base committed reads live undo
skips notes base committed reads live undo c l first olds same = record {
  mine = λ some tx s among one w. unchanged some s ∙ l.mine some tx s among one w;
  rest = λ some s among none. unchanged some s ∙ l.rest some s among none;
  quiet = λ s e. elim (cases_eq s c.slot) [
    | inl here ↦ absurd (not_empty (changes_of s notes) c (sym (changes_of-here s notes c (sym here)) ∙ e))
    | inr other ↦ l.quiet s (sym (changes_of-other s notes c (λ x. other (sym x))) ∙ e)
  ];
  free = l.free;
  apart = l.apart;
  back = l.back;
  unfinished = λ t a. stays notes c t ∙ l.unfinished t a;
}
  where
    one_note : (p : ℕ → Bool) (below : List ℕ) → c.old ≡ below → given p below (c ∷ []) ≡ below
    one_note p below is = elim (cases_Bool (p c.tx)) [
      | inl yes_it ↦ cond-true (p c.tx) _ _ yes_it ∙ same ∙ is
      | inr no_it ↦ cond-false (p c.tx) _ _ no_it ∙ is
    ]

    unchanged : (some : ℕ → Bool) (s : ℕ) → given_with some (notes ++ Changed c ∷ []) base s ≡ given_with some notes base s
    unchanged some s = elim (cases_eq c.slot s) [
      | inl here ↦
          let none : changes_of s notes ≡ [] = ap (λ (k : ℕ). changes_of k notes) (sym here) ∙ first in
          ap (λ (l : List Change). given (λ t. is_committed (notes ++ Changed c ∷ []) t || some t) (base s) l) (changes_of-here s notes c here ∙ ap (λ (l : List Change). l ++ c ∷ []) none)
          ∙ one_note (λ t. is_committed (notes ++ Changed c ∷ []) t || some t) (base s) (olds ∙ ap reads here ∙ l.quiet s none)
          ∙ sym (ap (λ (l : List Change). given (λ t. is_committed notes t || some t) (base s) l) none)
      | inr other ↦ other_slot some notes base c s other
    ]

-- ---- no gap

pub filled_none : (extent : ℕ) → IsFilled extent []
filled_none extent = λ slot k noted from lt. absurd (noted refl)

-- one note more, of a slot before which all have one
pub filled_more : (extent : ℕ) (notes : List Note) (c : Change) → IsFilled extent notes → ((k : ℕ) → extent ≤ k → k < c.slot → changes_of k notes ≢ []) → IsFilled extent (notes ++ Changed c ∷ [])
filled_more extent notes c filled gap slot k noted from lt none =
    let before : changes_of k notes ≡ [] = elim (cases_eq c.slot k) [
      | inl here ↦ absurd (not_empty (changes_of k notes) c (sym (changes_of-here k notes c here) ∙ none))
      | inr other ↦ sym (changes_of-other k notes c other) ∙ none
    ] in
    elim (cases_eq c.slot slot) [
      | inl here ↦ gap k from (omega (arith, here, lt)) before
      | inr other ↦ filled slot k (λ e. noted (changes_of-other slot notes c other ∙ e)) from lt before
    ]

pub filled_commit : (extent : ℕ) (notes : List Note) (tx : ℕ) → IsFilled extent notes → IsFilled extent (notes ++ Commit tx ∷ [])
filled_commit extent notes tx filled slot k noted from lt none = filled slot k (λ e. noted (changes_of-commit slot notes tx ∙ e)) from lt (sym (changes_of-commit k notes tx) ∙ none)

-- where no slot past area 0's end has a note there is no gap
pub filled_below : (extent : ℕ) (notes : List Note) → ((slot : ℕ) → changes_of slot notes ≢ [] → slot < extent) → IsFilled extent notes
filled_below extent notes below slot k noted from lt none = let within = below slot noted in absurd (omega (arith, within, from, lt))

-- then each slot with a settled note may be written
pub filled_may : (extent : ℕ) (bs : List (List Note)) (slot : ℕ) → IsFilled extent (notes_in bs) → changes_of slot (notes_in bs) ≢ [] → MayWrite extent bs (256 * slot) 256
filled_may extent bs slot filled noted = may_write extent bs slot (record { own = noted; gap = λ k from lt. filled slot k noted from lt })

-- ---- writes of area 0

pub writes_none : (bs : List (List Note)) (d image : Image) → image ≡ d → WritesNoted bs d image
writes_none bs d image is = record { others = λ k other. ap (λ (i : Image). i k) is; no_shorter = omega (arith, ap (λ (i : Image). length (i 0)) is); same = λ s none. ap (λ (i : Image). slot_of (i 0) s) is }

pub writes_twice : (bs : List (List Note)) (d e image : Image) → WritesNoted bs d e → WritesNoted bs e image → WritesNoted bs d image
writes_twice bs d e image one two = record { others = λ k other. two.others k other ∙ one.others k other; no_shorter = omega (arith, one.no_shorter, two.no_shorter); same = λ s none. two.same s none ∙ one.same s none }

pub writes_one : (e : ℕ) (bs : List (List Note)) (at n : ℕ) (d image : Image) → 256 * e ≤ length (d 0) → TornIn 0 at n d image → MayWrite e bs at n → WritesNoted bs d image
writes_one e bs at n d image there torn may = record {
  others = torn.others;
  no_shorter = torn.torn.no_shorter;
  same = λ s none. slot_same (d 0) (image 0) s (λ i from to. ⊎_elim
      (λ (before : (s < e) × (256 * s + 256 ≤ at)). torn.torn.below i (let had = before.0 in omega (arith, there, had, to)) (let ends = before.1 in omega (arith, ends, to)))
      (λ (after : at + n ≤ 256 * s). torn_after_it at n (d 0) (image 0) torn.torn i (omega (arith, after, from)))
      (may s none));
}

-- the log state of each image is preserved
pub writes_agree : (a g e : ℕ) (bs : List (List Note)) (base : ℕ → List ℕ) (d image : Image) → WritesNoted bs d image → LogState a g e bs base d → LogState a g e bs base image
writes_agree a g e bs base d image w st =
    let far = other_of a st.newest.log in
    record {
      newest = same_newest d image a g (w.others (3 - a) (far.4)) st.newest;
      log = subst (λ (l : List ℕ). HoldsLog l g bs) (sym (w.others a (λ is. far.1 (sym is)))) st.log;
      there = omega (arith, st.there, w.no_shorter);
      below = λ s none. w.same s none ∙ st.below s none;
    }

-- what a write of a slot leaves for reads
pub slot_overlaid : (s k : ℕ) (bytes old : List ℕ) → length bytes ≡ 256 → slot_of (overlaid (256 * s) bytes old) k ≡ put (slot_of old) s bytes k
slot_overlaid s k bytes old long = elim (cases_eq k s) [
  | inl here ↦ ext_get_or 0 _ _ (length-slot_of (overlaid (256 * s) bytes old) k ∙ sym long) (λ i lt.
      let small : i < 256 = omega (arith, lt, length-slot_of (overlaid (256 * s) bytes old) k) in
      get_or-slot_of (overlaid (256 * s) bytes old) k i small
      ∙ ap (λ (x : ℕ). get_or (overlaid (256 * s) bytes old) (256 * x + i) 0) here
      ∙ sym (overlaid-here (256 * s) bytes old i (omega (arith, small, long))))
      ∙ sym (put-here (slot_of old) s k bytes here)
  | inr other ↦ slot_same old (overlaid (256 * s) bytes old) k (λ i from to. ⊎_elim
      (λ (before : k < s). overlaid-before (256 * s) bytes old i (omega (arith, before, to)))
      (λ (after : s ≤ k). overlaid-after (256 * s) bytes old i (let more = beyond after other in omega (arith, more, from, long)))
      (cases_lt k s))
      ∙ sym (put-other (slot_of old) s k bytes other)
]
  where
    beyond : s ≤ k → k ≢ s → s + 1 ≤ k
    beyond from not = ⊎_elim (λ (more : s < k). omega (arith, more)) (λ (le : k ≤ s). absurd (not (omega (arith, le, from)))) (cases_lt s k)

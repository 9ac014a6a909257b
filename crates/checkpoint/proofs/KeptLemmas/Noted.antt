-- Which slots have notes, after one note more.
use Rattle.std.proofs.Common.{◌≡◌, ◌≢◌, ◌⊎◌, inl, inr, ⊎_elim, ℕ, ◌+◌, ◌<◌, ◌≤◌, List, [], ◌∷◌, ◌++◌, Option, Some, None, refl, sym, ◌∙◌, ap, arith}
use Rattle.std.proofs.lemmas.List.{append-nil}
use Rattle.std.proofs.lemmas.List.Concat.{flat_map-append}
use Rattle.std.proofs.lemmas.Bool.{cases_eq, cases_lt}
use Rattle.log_meaning.specs.declared.note.Change.{Change}
use Rattle.log_meaning.specs.declared.note.Note.{Note}
use Rattle.log_meaning.specs.declared.note.Note.TheVariants.{Change as Changed, Commit}
use Rattle.log_meaning.specs.Recovered.{changes_of}
use Rattle.log_meaning.specs.LogState.{notes_in, IsFilled}
use Rattle.log_meaning.proofs.Notes.{changes_of-append, changes_of-here, changes_of-other, changes_of-commit}
use Rattle.log_meaning.proofs.LoggedSteps.{not_empty}
use Rattle.checkpoint.specs.kept.KeptLog.{IsFilledTo, AreNoted, Stay}

pub notes-more : (bs : List (List Note)) (b : List Note) → notes_in (bs ++ b ∷ []) ≡ notes_in bs ++ b
notes-more bs b = flat_map-append (λ (x : List Note). x) bs (b ∷ []) ∙ ap (λ (l : List Note). notes_in bs ++ l) (append-nil b)

first_empty : {A : Type 0} (xs ys : List A) → xs ++ ys ≡ [] → xs ≡ []
first_empty [] ys is = refl
first_empty (x ∷ xs) ys is = cc

-- a slot that has a note has one after more notes
pub still_noted : (s : ℕ) (xs ys : List Note) → changes_of s xs ≢ [] → changes_of s (xs ++ ys) ≢ []
still_noted s xs ys some is = some (first_empty (changes_of s xs) (changes_of s ys) (sym (changes_of-append s xs ys) ∙ is))

pub now_noted : (s : ℕ) (xs : List Note) (c : Change) → c.slot ≡ s → changes_of s (xs ++ Changed c ∷ []) ≢ []
now_noted s xs c is none = not_empty (changes_of s xs) c (sym (changes_of-here s xs c is) ∙ none)

-- a note of a slot up to which all slots have one
pub filled_note : (e f f' : ℕ) (notes : List Note) (c : Change) → IsFilledTo e f notes → c.slot ≤ f → ((f ≤ c.slot) × (f' ≡ c.slot + 1)) ⊎ ((c.slot < f) × (f' ≡ f)) → IsFilledTo e f' (notes ++ Changed c ∷ [])
filled_note e f f' notes c filled le up = record {
  covered = λ k from lt. elim (cases_eq k c.slot) [
    | inl here ↦ now_noted k notes c (sym here)
    | inr far ↦ still_noted k notes (Changed c ∷ []) (filled.covered k from (⊎_elim (λ (a : (f ≤ c.slot) × (f' ≡ c.slot + 1)). let x = a.0 in let y = a.1 in omega (arith, x, y, lt, far, le)) (λ (b : (c.slot < f) × (f' ≡ f)). let y = b.1 in omega (arith, y, lt)) up))
  ];
  uncovered = λ k past.
      let far : c.slot ≢ k = λ is. ⊎_elim (λ (a : (f ≤ c.slot) × (f' ≡ c.slot + 1)). let y = a.1 in omega (arith, y, past, is)) (λ (b : (c.slot < f) × (f' ≡ f)). let x = b.0 in let y = b.1 in omega (arith, x, y, past, is)) up in
      changes_of-other k notes c far ∙ filled.uncovered k (⊎_elim (λ (a : (f ≤ c.slot) × (f' ≡ c.slot + 1)). let x = a.0 in let y = a.1 in omega (arith, x, y, past)) (λ (b : (c.slot < f) × (f' ≡ f)). let y = b.1 in omega (arith, y, past)) up);
}

pub filled_commit : (e f : ℕ) (notes : List Note) (tx : ℕ) → IsFilledTo e f notes → IsFilledTo e f (notes ++ Commit tx ∷ [])
filled_commit e f notes tx filled = record {
  covered = λ k from lt. still_noted k notes (Commit tx ∷ []) (filled.covered k from lt);
  uncovered = λ k past. changes_of-commit k notes tx ∙ filled.uncovered k past;
}

-- then no slot before one with a note is without one
pub filled_all : (e f : ℕ) (notes : List Note) → IsFilledTo e f notes → IsFilled e notes
filled_all e f notes filled slot k some from lt = ⊎_elim
    (λ (within : slot < f). filled.covered k from (omega (arith, within, lt)))
    (λ (past : f ≤ slot). absurd (some (filled.uncovered slot past)))
    (cases_lt slot f)

no_note : (n : ℕ) → None ≡ Some n → ⊥
no_note n e = cc

-- the changes that area 0 does not have keep their notes
pub changes_stay : (un un' : ℕ → Option ℕ) (settled : ℕ) (batches notes : List Note) → Stay un un' → AreNoted un settled batches notes → AreNoted un' settled batches notes
changes_stay un un' settled batches notes stay noted slot note is = ⊎_elim
    (λ (same : un' slot ≡ un slot). noted slot note (sym same ∙ is))
    (λ (gone : un' slot ≡ None). absurd (no_note note (sym gone ∙ is)))
    (stay slot)

-- after the note of one more change, which is not settled
pub changes_more : (un un' : ℕ → Option ℕ) (settled : ℕ) (batches notes : List Note) (c : Change) → ((s : ℕ) → s ≢ c.slot → (un' s ≡ un s) ⊎ (un' s ≡ None)) → ((note : ℕ) → un' c.slot ≡ Some note → settled < note)
    → AreNoted un settled batches notes → AreNoted un' settled batches (notes ++ Changed c ∷ [])
changes_more un un' settled batches notes c stay mine noted slot note is = elim (cases_eq slot c.slot) [
  | inl here ↦ (now_noted slot notes c (sym here), λ le. absurd (let late = mine note (sym (ap un' here) ∙ is) in omega (arith, late, le)))
  | inr far ↦ ⊎_elim
      (λ (same : un' slot ≡ un slot). let h = noted slot note (sym same ∙ is) in (still_noted slot notes (Changed c ∷ []) (h.0), h.1))
      (λ (gone : un' slot ≡ None). absurd (no_note note (sym gone ∙ is)))
      (stay slot far)
]

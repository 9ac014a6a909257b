-- What a begin, a write, a write taken back, a commit, an abandon and a new generation make of the log.
use Rattle.std.proofs.Common.{◌≡◌, ◌≢◌, inl, inr, ℕ, Bool, true, false, ◌||◌, List, [], ◌∷◌, ◌++◌, sym, ◌∙◌, ap, subst, arith}
use Rattle.std.proofs.lemmas.Bool.{cases_Bool, cases_eq, or_right, both_ways}
use Rattle.storage.specs.declared.slots.Undo.{Undo}
use Rattle.storage.specs.Slots.{put, wrote, undone}
use Rattle.log_meaning.specs.declared.note.Change.{Change}
use Rattle.log_meaning.specs.declared.note.Note.{Note}
use Rattle.log_meaning.specs.declared.note.Note.TheVariants.{Change as Changed}
use Rattle.log_meaning.specs.Recovered.{changes_of, is_committed, first_old, given}
use Rattle.log_meaning.specs.Logged.{given_with, Logged}
use Rattle.log_meaning.proofs.Notes.{changes_of-here, changes_of-other, is_committed-append, given-more, given-same, last_new-same}
use Rattle.log_meaning.proofs.Undone.{put-here, put-other, undone-at, undone-not, undone-last, wrote-here, wrote-other}

pub given-sets : (p q : ℕ → Bool) (below : List ℕ) (xs : List Change) → ((t : ℕ) → p t ≡ q t) → given p below xs ≡ given q below xs
given-sets p q below xs same = last_new-same p q (first_old below xs) xs same

-- a change commits nothing
pub stays : (notes : List Note) (c : Change) (t : ℕ) → is_committed (notes ++ Changed c ∷ []) t ≡ is_committed notes t
stays notes c t = grind (arith, is_committed-append notes (Changed c ∷ []) t)

-- what another slot recovers to stays
pub other_slot : (some : ℕ → Bool) (notes : List Note) (base : ℕ → List ℕ) (c : Change) (s : ℕ) → c.slot ≢ s → given_with some (notes ++ Changed c ∷ []) base s ≡ given_with some notes base s
other_slot some notes base c s other =
    ap (λ (l : List Change). given (λ t. is_committed (notes ++ Changed c ∷ []) t || some t) (base s) l) (changes_of-other s notes c other)
    ∙ given-sets _ _ (base s) (changes_of s notes) (λ t. ap (λ (b : Bool). b || some t) (stays notes c t))

-- the slot has the bytes of the change, where its transaction is one of these
pub this_slot : (some : ℕ → Bool) (notes : List Note) (base : ℕ → List ℕ) (c : Change) (s : ℕ) → c.slot ≡ s → some c.tx ≡ true → given_with some (notes ++ Changed c ∷ []) base s ≡ c.new
this_slot some notes base c s here is =
    ap (λ (l : List Change). given (λ t. is_committed (notes ++ Changed c ∷ []) t || some t) (base s) l) (changes_of-here s notes c here)
    ∙ given-more _ (base s) (changes_of s notes) c (or_right (is_committed (notes ++ Changed c ∷ []) c.tx) (some c.tx) is)

-- and what it had, where it is none of these
pub no_slot : (some : ℕ → Bool) (notes : List Note) (base : ℕ → List ℕ) (c : Change) (s : ℕ) → c.slot ≡ s → some c.tx ≡ false → is_committed notes c.tx ≡ false → (changes_of s notes ≡ [] → c.old ≡ base s)
    → given_with some (notes ++ Changed c ∷ []) base s ≡ given_with some notes base s
no_slot some notes base c s here is open_yet first =
    ap (λ (l : List Change). given (λ t. is_committed (notes ++ Changed c ∷ []) t || some t) (base s) l) (changes_of-here s notes c here)
    ∙ given-same _ (base s) (changes_of s notes) c (ap (λ (b : Bool). b || some c.tx) (stays notes c c.tx ∙ open_yet) ∙ is) first
    ∙ given-sets _ _ (base s) (changes_of s notes) (λ t. ap (λ (b : Bool). b || some t) (stays notes c t))

pub not_empty : (xs : List Change) (c : Change) → xs ++ c ∷ [] ≡ [] → ⊥
not_empty [] c is = cc
not_empty (x ∷ xs) c is = cc

-- a live transaction writes a slot that no other live one wrote
pub writes : (notes : List Note) (base committed reads : ℕ → List ℕ) (live : ℕ → Bool) (undo undo' : ℕ → List Undo) (c : Change) (u : Undo)
    → Logged notes base committed reads live undo → live c.tx ≡ true → c.old ≡ reads c.slot → u.slot ≡ c.slot → u.old ≡ reads c.slot
    → ((t : ℕ) → t ≢ c.tx → live t ≡ true → wrote (undo t) c.slot ≡ false) → undo' c.tx ≡ undo c.tx ++ u ∷ [] → ((t : ℕ) → t ≢ c.tx → undo' t ≡ undo t)
    → Logged (notes ++ Changed c ∷ []) base committed (put reads c.slot c.new) live undo'
writes notes base committed reads live undo undo' c u l alive olds at olds' alone more same = record {
  mine = λ some tx s among one w. elim (cases_eq s c.slot) [
    | inl here ↦ elim (cases_eq tx c.tx) [
      | inl its ↦ this_slot some notes base c s (sym here) (subst (λ (t : ℕ). some t ≡ true) its one) ∙ sym (put-here reads c.slot s c.new here)
      | inr not ↦ absurd (both_ways _ (alone tx not (among tx one)) (sym (ap (λ (k : ℕ). wrote (undo tx) k) here) ∙ sym (ap (λ (us : List Undo). wrote us s) (same tx not)) ∙ w))
    ]
    | inr other ↦ other_slot some notes base c s (λ e. other (sym e)) ∙ l.mine some tx s among one (sym (as_before tx s other) ∙ w) ∙ sym (put-other reads c.slot s c.new other)
  ];
  rest = λ some s among none. elim (cases_eq s c.slot) [
    | inl here ↦
        let not_it : some c.tx ≡ false = elim (cases_Bool (some c.tx)) [ inl taken ↦ absurd (both_ways _ (none c.tx taken) (it_wrote s here)) | inr left ↦ left ] in
        no_slot some notes base c s (sym here) not_it (l.unfinished c.tx alive) (λ e. olds ∙ ap reads (sym here) ∙ l.quiet s e)
        ∙ l.rest some s among (λ t in_it. elim (cases_eq t c.tx) [ inl its ↦ absurd (both_ways _ not_it (subst (λ (x : ℕ). some x ≡ true) its in_it)) | inr not ↦ sym (ap (λ (us : List Undo). wrote us s) (same t not)) ∙ none t in_it ])
    | inr other ↦ other_slot some notes base c s (λ e. other (sym e)) ∙ l.rest some s among (λ t in_it. sym (as_before t s other) ∙ none t in_it)
  ];
  quiet = λ s e. elim (cases_eq s c.slot) [
    | inl here ↦ absurd (not_empty (changes_of s notes) c (sym (changes_of-here s notes c (sym here)) ∙ e))
    | inr other ↦ put-other reads c.slot s c.new other ∙ l.quiet s (sym (changes_of-other s notes c (λ x. other (sym x))) ∙ e)
  ];
  free = λ s none. elim (cases_eq s c.slot) [
    | inl here ↦ absurd (both_ways _ (none c.tx alive) (it_wrote s here))
    | inr other ↦ put-other reads c.slot s c.new other ∙ l.free s (λ t in_it. sym (as_before t s other) ∙ none t in_it)
  ];
  apart = λ t v s a b x y. elim (cases_eq s c.slot) [
    | inl here ↦ only t s a x here ∙ sym (only v s b y here)
    | inr other ↦ l.apart t v s a b (sym (as_before t s other) ∙ x) (sym (as_before v s other) ∙ y)
  ];
  back = λ t s a w. elim (cases_eq t c.tx) [
    | inl its ↦ ap (λ (us : List Undo). undone us (put reads c.slot c.new) s) (ap undo' its ∙ more) ∙ undone-last (undo c.tx) u (put reads c.slot c.new) s ∙ undone-at (undo c.tx) _ reads s (restored s) ∙ was_committed s (subst (λ (x : ℕ). wrote (undo' x) s ≡ true) its w)
    | inr not ↦ elim (cases_eq s c.slot) [
      | inl here ↦ absurd (not (only t s a w here))
      | inr other ↦ ap (λ (us : List Undo). undone us (put reads c.slot c.new) s) (same t not) ∙ undone-at (undo t) _ reads s (put-other reads c.slot s c.new other) ∙ l.back t s a (sym (as_before t s other) ∙ w)
    ]
  ];
  unfinished = λ t a. stays notes c t ∙ l.unfinished t a;
}
  where
    it_wrote : (s : ℕ) → s ≡ c.slot → wrote (undo' c.tx) s ≡ true
    it_wrote s here = ap (λ (us : List Undo). wrote us s) more ∙ wrote-here (undo c.tx) u s (here ∙ sym at)

    as_before : (t s : ℕ) → s ≢ c.slot → wrote (undo' t) s ≡ wrote (undo t) s
    as_before t s other = elim (cases_eq t c.tx) [
      | inl its ↦ ap (λ (x : ℕ). wrote (undo' x) s) its ∙ ap (λ (us : List Undo). wrote us s) more ∙ wrote-other (undo c.tx) u s (λ e. other (e ∙ at)) ∙ ap (λ (x : ℕ). wrote (undo x) s) (sym its)
      | inr not ↦ ap (λ (us : List Undo). wrote us s) (same t not)
    ]

    only : (t s : ℕ) → live t ≡ true → wrote (undo' t) s ≡ true → s ≡ c.slot → t ≡ c.tx
    only t s a w here = elim (cases_eq t c.tx) [
      | inl is ↦ is
      | inr not ↦ absurd (both_ways _ (alone t not a) (sym (ap (λ (k : ℕ). wrote (undo t) k) here) ∙ sym (ap (λ (us : List Undo). wrote us s) (same t not)) ∙ w))
    ]

    restored : (s : ℕ) → put (put reads c.slot c.new) u.slot u.old s ≡ reads s
    restored s = elim (cases_eq s u.slot) [
      | inl here ↦ put-here (put reads c.slot c.new) u.slot s u.old here ∙ olds' ∙ ap reads (sym at ∙ sym here)
      | inr other ↦ put-other (put reads c.slot c.new) u.slot s u.old other ∙ put-other reads c.slot s c.new (λ e. other (e ∙ sym at))
    ]

    was_committed : (s : ℕ) → wrote (undo' c.tx) s ≡ true → undone (undo c.tx) reads s ≡ committed s
    was_committed s w = elim (cases_Bool (wrote (undo c.tx) s)) [
      | inl before ↦ l.back c.tx s alive before
      | inr first ↦ undone-not (undo c.tx) reads s first ∙ l.free s (λ t a. elim (cases_eq t c.tx) [
        | inl is ↦ ap (λ (x : ℕ). wrote (undo x) s) is ∙ first
        | inr not ↦ elim (cases_eq s c.slot) [
          | inl here ↦ ap (λ (k : ℕ). wrote (undo t) k) here ∙ alone t not a
          | inr other ↦ absurd (both_ways (wrote (undo c.tx) s) first (sym (as_before c.tx s other) ∙ w))
        ]
      ])
    ]

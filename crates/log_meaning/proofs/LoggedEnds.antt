-- What a write taken back, a commit and an abandon make of the log.
use Rattle.std.proofs.Common.{◌≡◌, ◌≢◌, inl, inr, ℕ, ◌==◌, Bool, true, false, ◌||◌, List, [], ◌∷◌, ◌++◌, refl, sym, ◌∙◌, ap, subst, arith}
use Rattle.std.proofs.lemmas.Bool.{cases_Bool, cases_eq, cond-true, cond-false, or_left, or_right, or_cases, eq-eqb, ne_eqb, eqb-true, true≢false, both_ways}
use Rattle.storage.specs.declared.slots.Undo.{Undo}
use Rattle.storage.specs.Slots.{put, wrote, undone, joined}
use Rattle.log_meaning.specs.declared.note.Change.{Change}
use Rattle.log_meaning.specs.declared.note.Note.{Note}
use Rattle.log_meaning.specs.declared.note.Note.TheVariants.{Change as Changed, Commit}
use Rattle.log_meaning.specs.Recovered.{changes_of, is_committed, given}
use Rattle.log_meaning.specs.Logged.{AreAmong, given_with, Logged}
use Rattle.log_meaning.proofs.Notes.{changes_of-here, changes_of-other, changes_of-commit, is_committed-append}
use Rattle.log_meaning.proofs.Undone.{put-here, put-other, undone-at, undone-not, undone-last, wrote-here, wrote-other, wrote-before}
use Rattle.log_meaning.proofs.LoggedSteps.{given-sets, stays, other_slot, this_slot, no_slot, not_empty}

-- the last write of a live transaction is taken back, by a note of its own
pub takes_back : (notes : List Note) (base committed reads : ℕ → List ℕ) (live : ℕ → Bool) (undo undo' : ℕ → List Undo) (c : Change) (u : Undo)
    → Logged notes base committed reads live undo → live c.tx ≡ true → c.old ≡ reads c.slot → u.slot ≡ c.slot → u.old ≡ c.new
    → undo c.tx ≡ undo' c.tx ++ u ∷ [] → ((t : ℕ) → t ≢ c.tx → undo' t ≡ undo t)
    → Logged (notes ++ Changed c ∷ []) base committed (put reads c.slot c.new) live undo'
takes_back notes base committed reads live undo undo' c u l alive olds at news less same = record {
  mine = λ some tx s among one w. elim (cases_eq s c.slot) [
    | inl here ↦ elim (cases_eq tx c.tx) [
      | inl its ↦ this_slot some notes base c s (sym here) (subst (λ (t : ℕ). some t ≡ true) its one) ∙ sym (put-here reads c.slot s c.new here)
      | inr not ↦ absurd (not (only tx s (among tx one) w here))
    ]
    | inr other ↦ other_slot some notes base c s (λ e. other (sym e)) ∙ l.mine some tx s among one (sym (as_before tx s other) ∙ w) ∙ sym (put-other reads c.slot s c.new other)
  ];
  rest = λ some s among none. elim (cases_eq s c.slot) [
    | inl here ↦ elim (cases_Bool (some c.tx)) [
      | inl taken ↦ this_slot some notes base c s (sym here) taken ∙ first_again s here (none c.tx taken)
      | inr left ↦ no_slot some notes base c s (sym here) left (l.unfinished c.tx alive) (λ e. olds ∙ ap reads (sym here) ∙ l.quiet s e)
          ∙ l.rest some s among (λ t in_it. elim (cases_eq t c.tx) [ inl its ↦ absurd (both_ways _ left (subst (λ (x : ℕ). some x ≡ true) its in_it)) | inr not ↦ sym (ap (λ (us : List Undo). wrote us s) (same t not)) ∙ none t in_it ])
    ]
    | inr other ↦ other_slot some notes base c s (λ e. other (sym e)) ∙ l.rest some s among (λ t in_it. sym (as_before t s other) ∙ none t in_it)
  ];
  quiet = λ s e. elim (cases_eq s c.slot) [
    | inl here ↦ absurd (not_empty (changes_of s notes) c (sym (changes_of-here s notes c (sym here)) ∙ e))
    | inr other ↦ put-other reads c.slot s c.new other ∙ l.quiet s (sym (changes_of-other s notes c (λ x. other (sym x))) ∙ e)
  ];
  free = λ s none. elim (cases_eq s c.slot) [
    | inl here ↦ put-here reads c.slot s c.new here ∙ first_again s here (none c.tx alive)
    | inr other ↦ put-other reads c.slot s c.new other ∙ l.free s (λ t in_it. sym (as_before t s other) ∙ none t in_it)
  ];
  apart = λ t v s a b x y. l.apart t v s a b (before t s x) (before v s y);
  back = λ t s a w. elim (cases_eq t c.tx) [
    | inl its ↦ ap (λ (x : ℕ). undone (undo' x) (put reads c.slot c.new) s) its ∙ undone-at (undo' c.tx) _ _ s (lasts s) ∙ sym (undone-last (undo' c.tx) u reads s) ∙ ap (λ (us : List Undo). undone us reads s) (sym less) ∙ l.back c.tx s alive (before c.tx s (subst (λ (x : ℕ). wrote (undo' x) s ≡ true) its w))
    | inr not ↦ elim (cases_eq s c.slot) [
      | inl here ↦ absurd (not (only t s a w here))
      | inr other ↦ ap (λ (us : List Undo). undone us (put reads c.slot c.new) s) (same t not) ∙ undone-at (undo t) _ reads s (put-other reads c.slot s c.new other) ∙ l.back t s a (sym (as_before t s other) ∙ w)
    ]
  ];
  unfinished = λ t a. stays notes c t ∙ l.unfinished t a;
}
  where
    it_wrote : (s : ℕ) → s ≡ c.slot → wrote (undo c.tx) s ≡ true
    it_wrote s here = ap (λ (us : List Undo). wrote us s) less ∙ wrote-here (undo' c.tx) u s (here ∙ sym at)

    as_before : (t s : ℕ) → s ≢ c.slot → wrote (undo' t) s ≡ wrote (undo t) s
    as_before t s other = elim (cases_eq t c.tx) [
      | inl its ↦ ap (λ (x : ℕ). wrote (undo' x) s) its ∙ sym (wrote-other (undo' c.tx) u s (λ e. other (e ∙ at))) ∙ ap (λ (us : List Undo). wrote us s) (sym less) ∙ ap (λ (x : ℕ). wrote (undo x) s) (sym its)
      | inr not ↦ ap (λ (us : List Undo). wrote us s) (same t not)
    ]

    before : (t s : ℕ) → wrote (undo' t) s ≡ true → wrote (undo t) s ≡ true
    before t s w = elim (cases_eq t c.tx) [
      | inl its ↦ ap (λ (x : ℕ). wrote (undo x) s) its ∙ ap (λ (us : List Undo). wrote us s) less ∙ wrote-before (undo' c.tx) u s (subst (λ (x : ℕ). wrote (undo' x) s ≡ true) its w)
      | inr not ↦ sym (ap (λ (us : List Undo). wrote us s) (same t not)) ∙ w
    ]

    only : (t s : ℕ) → live t ≡ true → wrote (undo' t) s ≡ true → s ≡ c.slot → t ≡ c.tx
    only t s a w here = l.apart t c.tx s a alive (before t s w) (it_wrote s here)

    lasts : (s : ℕ) → put reads c.slot c.new s ≡ put reads u.slot u.old s
    lasts s = ap (λ (k : ℕ). put reads k c.new s) (sym at) ∙ ap (λ (b : List ℕ). put reads u.slot b s) (sym news)

    -- where no write of the slot is left, its bytes are the committed ones
    first_again : (s : ℕ) → s ≡ c.slot → wrote (undo' c.tx) s ≡ false → c.new ≡ committed s
    first_again s here gone = sym news ∙ sym (put-here reads u.slot s u.old (here ∙ sym at)) ∙ sym (undone-not (undo' c.tx) (put reads u.slot u.old) s gone) ∙ sym (undone-last (undo' c.tx) u reads s) ∙ ap (λ (us : List Undo). undone us reads s) (sym less) ∙ l.back c.tx s alive (it_wrote s here)

-- these transactions and one more
abbrev also : (ℕ → Bool) → ℕ → ℕ → Bool
also some tx t = some t || (t == tx)

commits_also : (some : ℕ → Bool) (notes : List Note) (tx t : ℕ) → (is_committed (notes ++ Commit tx ∷ []) t || some t) ≡ (is_committed notes t || also some tx t)
commits_also some notes tx t = elim (cases_eq t tx) [
  | inl is ↦ grind (arith, is_committed-append notes (Commit tx ∷ []) t, eq-eqb t tx is, eq-eqb tx t (sym is))
  | inr not ↦ grind (arith, is_committed-append notes (Commit tx ∷ []) t, ne_eqb t tx not, ne_eqb tx t (λ e. not (sym e)))
]

-- a live transaction is committed
pub commits : (notes : List Note) (base committed reads : ℕ → List ℕ) (live live' : ℕ → Bool) (undo undo' : ℕ → List Undo) (tx : ℕ)
    → Logged notes base committed reads live undo → live tx ≡ true → live' tx ≡ false → ((t : ℕ) → t ≢ tx → live' t ≡ live t) → ((t : ℕ) → t ≢ tx → undo' t ≡ undo t)
    → Logged (notes ++ Commit tx ∷ []) base (joined (undo tx) reads committed) reads live' undo'
commits notes base committed reads live live' undo undo' tx l alive ended others same = record {
  mine = λ some t s among one w. besides some s ∙ l.mine (also some tx) t s (and_among some among) (or_left (some t) (t == tx) one) (sym (as_it_was t s (among t one)) ∙ w);
  rest = λ some s among none. besides some s ∙ elim (cases_Bool (wrote (undo tx) s)) [
    | inl its ↦ l.mine (also some tx) tx s (and_among some among) (or_right (some tx) (tx == tx) (eq-eqb tx tx refl)) its ∙ sym (cond-true (wrote (undo tx) s) _ _ its)
    | inr not_its ↦ l.rest (also some tx) s (and_among some among) (λ t in_it. elim (or_cases (some t) (t == tx) in_it) [
      | inl one ↦ sym (as_it_was t s (among t one)) ∙ none t one
      | inr is ↦ ap (λ (x : ℕ). wrote (undo x) s) (eqb-true t tx is) ∙ not_its
    ]) ∙ sym (cond-false (wrote (undo tx) s) _ _ not_its)
  ];
  quiet = λ s e. l.quiet s (sym (changes_of-commit s notes tx) ∙ e);
  free = λ s none. elim (cases_Bool (wrote (undo tx) s)) [
    | inl its ↦ sym (cond-true (wrote (undo tx) s) _ _ its)
    | inr not_its ↦ l.free s (λ t a. elim (cases_eq t tx) [
      | inl is ↦ ap (λ (x : ℕ). wrote (undo x) s) is ∙ not_its
      | inr not ↦ sym (ap (λ (us : List Undo). wrote us s) (same t not)) ∙ none t (others t not ∙ a)
    ]) ∙ sym (cond-false (wrote (undo tx) s) _ _ not_its)
  ];
  apart = λ t v s a b x y. l.apart t v s (was_live t a) (was_live v b) (sym (as_it_was t s a) ∙ x) (sym (as_it_was v s b) ∙ y);
  back = λ t s a w.
      let w' : wrote (undo t) s ≡ true = sym (as_it_was t s a) ∙ w in
      ap (λ (us : List Undo). undone us reads s) (same t (not_it t a)) ∙ l.back t s (was_live t a) w' ∙ sym (cond-false (wrote (undo tx) s) _ _ (elim (cases_Bool (wrote (undo tx) s)) [
        | inl its ↦ absurd (not_it t a (l.apart t tx s (was_live t a) alive w' its))
        | inr not_its ↦ not_its
      ]));
  unfinished = λ t a. is_committed-append notes (Commit tx ∷ []) t ∙ ap (λ (b : Bool). b || ((tx == t) || false)) (l.unfinished t (was_live t a)) ∙ ap (λ (b : Bool). b || false) (ne_eqb tx t (λ e. not_it t a (sym e)));
}
  where
    not_it : (t : ℕ) → live' t ≡ true → t ≢ tx
    not_it t a is = both_ways (live' tx) ended (subst (λ (x : ℕ). live' x ≡ true) is a)

    was_live : (t : ℕ) → live' t ≡ true → live t ≡ true
    was_live t a = sym (others t (not_it t a)) ∙ a

    as_it_was : (t s : ℕ) → live' t ≡ true → wrote (undo' t) s ≡ wrote (undo t) s
    as_it_was t s a = ap (λ (us : List Undo). wrote us s) (same t (not_it t a))

    and_among : (some : ℕ → Bool) → AreAmong some live' → AreAmong (also some tx) live
    and_among some among t in_it = elim (or_cases (some t) (t == tx) in_it) [
      | inl one ↦ was_live t (among t one)
      | inr is ↦ ap live (eqb-true t tx is) ∙ alive
    ]

    besides : (some : ℕ → Bool) (s : ℕ) → given_with some (notes ++ Commit tx ∷ []) base s ≡ given_with (also some tx) notes base s
    besides some s = ap (λ (xs : List Change). given (λ t. is_committed (notes ++ Commit tx ∷ []) t || some t) (base s) xs) (changes_of-commit s notes tx)
        ∙ given-sets _ _ (base s) (changes_of s notes) (λ t. commits_also some notes tx t)

-- a live transaction is abandoned
pub abandons : (notes : List Note) (base committed reads : ℕ → List ℕ) (live live' : ℕ → Bool) (undo undo' : ℕ → List Undo) (tx : ℕ)
    → Logged notes base committed reads live undo → live tx ≡ true → live' tx ≡ false → ((t : ℕ) → t ≢ tx → live' t ≡ live t) → ((t : ℕ) → t ≢ tx → undo' t ≡ undo t)
    → Logged notes base committed (undone (undo tx) reads) live' undo'
abandons notes base committed reads live live' undo undo' tx l alive ended others same = record {
  mine = λ some t s among one w. l.mine some t s (λ x o. was_live x (among x o)) one (sym (as_it_was t s (among t one)) ∙ w) ∙ sym (not_its t s (among t one) w);
  rest = λ some s among none. l.rest some s (λ x o. was_live x (among x o)) (λ t one. sym (as_it_was t s (among t one)) ∙ none t one);
  quiet = λ s e. elim (cases_Bool (wrote (undo tx) s)) [
    | inl its ↦ l.back tx s alive its ∙ sym (l.rest (λ t. false) s (λ t no. absurd (true≢false (sym no))) (λ t no. absurd (true≢false (sym no)))) ∙ ap (λ (xs : List Change). given (λ t. is_committed notes t || false) (base s) xs) e
    | inr none ↦ undone-not (undo tx) reads s none ∙ l.quiet s e
  ];
  free = λ s none. elim (cases_Bool (wrote (undo tx) s)) [
    | inl its ↦ l.back tx s alive its
    | inr gone ↦ undone-not (undo tx) reads s gone ∙ l.free s (λ t a. elim (cases_eq t tx) [
      | inl is ↦ ap (λ (x : ℕ). wrote (undo x) s) is ∙ gone
      | inr not ↦ sym (ap (λ (us : List Undo). wrote us s) (same t not)) ∙ none t (others t not ∙ a)
    ])
  ];
  apart = λ t v s a b x y. l.apart t v s (was_live t a) (was_live v b) (sym (as_it_was t s a) ∙ x) (sym (as_it_was v s b) ∙ y);
  back = λ t s a w. ap (λ (us : List Undo). undone us (undone (undo tx) reads) s) (same t (not_it t a)) ∙ undone-at (undo t) _ reads s (not_its t s a w) ∙ l.back t s (was_live t a) (sym (as_it_was t s a) ∙ w);
  unfinished = λ t a. l.unfinished t (was_live t a);
}
  where
    not_it : (t : ℕ) → live' t ≡ true → t ≢ tx
    not_it t a is = both_ways (live' tx) ended (subst (λ (x : ℕ). live' x ≡ true) is a)

    was_live : (t : ℕ) → live' t ≡ true → live t ≡ true
    was_live t a = sym (others t (not_it t a)) ∙ a

    as_it_was : (t s : ℕ) → live' t ≡ true → wrote (undo' t) s ≡ wrote (undo t) s
    as_it_was t s a = ap (λ (us : List Undo). wrote us s) (same t (not_it t a))

    not_its : (t s : ℕ) → live' t ≡ true → wrote (undo' t) s ≡ true → undone (undo tx) reads s ≡ reads s
    not_its t s a w = undone-not (undo tx) reads s (elim (cases_Bool (wrote (undo tx) s)) [
      | inl its ↦ absurd (not_it t a (l.apart t tx s (was_live t a) alive (sym (as_it_was t s a) ∙ w) its))
      | inr none ↦ none
    ])

-- What a begin and a new generation make of the log.
use Rattle.std.proofs.Common.{◌≡◌, ◌≢◌, ◌⊎◌, inl, inr, ⊎_elim, ℕ, ◌==◌, Bool, true, false, ◌||◌, ◌&&◌, not, if◌then◌else◌, List, [], ◌∷◌, ◌++◌, refl, sym, ◌∙◌, ap, subst, arith}
use Rattle.std.specs.List.{list_any}
use Rattle.std.proofs.lemmas.Bool.{cases_Bool, cases_eq, cond-true, cond-false, or_left, or_right, or_parts, or_cases, and_parts, and_from, eq-eqb, ne_eqb, eqb-true, true≢false, both_ways}
use Rattle.storage.specs.declared.slots.Undo.{Undo}
use Rattle.storage.specs.Slots.{wrote, undone}
use Rattle.log_meaning.specs.declared.note.Change.{Change}
use Rattle.log_meaning.specs.declared.note.Note.{Note}
use Rattle.log_meaning.specs.Recovered.{changes_of, is_committed, first_old, last_new, given}
use Rattle.log_meaning.specs.Logged.{AreAmong, given_with, Logged, carried_of, carried}
use Rattle.log_meaning.proofs.Notes.{changes_of-append, is_committed-append}

-- ---- a new generation

last_new-lists : (p : ℕ → Bool) (o : List ℕ) (xs ys : List Change) → last_new p o (xs ++ ys) ≡ last_new p (last_new p o xs) ys
last_new-lists p o [] ys = refl
last_new-lists p o (x ∷ xs) ys = last_new-lists p (if p x.tx then x.new else o) xs ys

first_old-lists : (o : List ℕ) (xs ys : List Change) → first_old o (xs ++ ys) ≡ first_old (first_old o ys) xs
first_old-lists o [] ys = refl
first_old-lists o (x ∷ xs) ys = refl

commits_none : (tx : ℕ) (reads : ℕ → List ℕ) (us : List Undo) (t : ℕ) → is_committed (carried_of tx reads us) t ≡ false
commits_none tx reads [] t = refl
commits_none tx reads (u ∷ us) t = commits_none tx reads us t

carried_commits_none : (txs : List ℕ) (reads : ℕ → List ℕ) (undo : ℕ → List Undo) (t : ℕ) → is_committed (carried txs reads undo) t ≡ false
carried_commits_none [] reads undo t = refl
carried_commits_none (tx ∷ txs) reads undo t = is_committed-append (carried_of tx reads (undo tx)) (carried txs reads undo) t ∙ ap (λ (b : Bool). b || is_committed (carried txs reads undo) t) (commits_none tx reads (undo tx) t) ∙ carried_commits_none txs reads undo t

-- of a slot that is not written nothing is carried
none_of : (tx s : ℕ) (reads : ℕ → List ℕ) (us : List Undo) → wrote us s ≡ false → changes_of s (carried_of tx reads us) ≡ []
none_of tx s reads [] none = refl
none_of tx s reads (u ∷ us) none =
    let parts = or_parts (s == u.slot) (wrote us s) none in
    cond-false (u.slot == s) _ _ (ne_eqb u.slot s (λ e. both_ways _ (parts.0) (eq-eqb s u.slot (sym e)))) ∙ none_of tx s reads us (parts.1)

-- its first bytes are those after undoing all its writes
first_of : (tx s : ℕ) (reads : ℕ → List ℕ) (o : List ℕ) (us : List Undo) → wrote us s ≡ true → first_old o (changes_of s (carried_of tx reads us)) ≡ undone us reads s
first_of tx s reads o [] w = absurd (true≢false (sym w))
first_of tx s reads o (u ∷ us) w = elim (cases_eq s u.slot) [
  | inl here ↦ ap (first_old o) (cond-true (u.slot == s) (record { tx = tx; slot = u.slot; old = u.old; new = reads u.slot } ∷ changes_of s (carried_of tx reads us)) (changes_of s (carried_of tx reads us)) (eq-eqb u.slot s (sym here))) ∙ sym (cond-true (s == u.slot) _ _ (eq-eqb s u.slot here))
  | inr other ↦ ap (first_old o) (cond-false (u.slot == s) (record { tx = tx; slot = u.slot; old = u.old; new = reads u.slot } ∷ changes_of s (carried_of tx reads us)) (changes_of s (carried_of tx reads us)) (ne_eqb u.slot s (λ e. other (sym e))))
      ∙ first_of tx s reads o us (elim (or_cases (s == u.slot) (wrote us s) w) [ inl here ↦ absurd (other (eqb-true s u.slot here)) | inr rest ↦ rest ])
      ∙ sym (cond-false (s == u.slot) _ _ (ne_eqb s u.slot other))
]

-- its last bytes are those that it reads, where the transaction is one of these
last_in : (p : ℕ → Bool) (tx s : ℕ) (reads : ℕ → List ℕ) (o : List ℕ) (us : List Undo) → p tx ≡ true → o ≡ reads s → last_new p o (changes_of s (carried_of tx reads us)) ≡ reads s
last_in p tx s reads o [] is so = so
last_in p tx s reads o (u ∷ us) is so = elim (cases_eq s u.slot) [
  | inl here ↦ ap (last_new p o) (cond-true (u.slot == s) (record { tx = tx; slot = u.slot; old = u.old; new = reads u.slot } ∷ changes_of s (carried_of tx reads us)) (changes_of s (carried_of tx reads us)) (eq-eqb u.slot s (sym here)))
      ∙ last_in p tx s reads (if p tx then reads u.slot else o) us is (cond-true (p tx) _ _ is ∙ ap reads (sym here))
  | inr other ↦ ap (last_new p o) (cond-false (u.slot == s) (record { tx = tx; slot = u.slot; old = u.old; new = reads u.slot } ∷ changes_of s (carried_of tx reads us)) (changes_of s (carried_of tx reads us)) (ne_eqb u.slot s (λ e. other (sym e))))
      ∙ last_in p tx s reads o us is so
]

last_of : (p : ℕ → Bool) (tx s : ℕ) (reads : ℕ → List ℕ) (o : List ℕ) (us : List Undo) → p tx ≡ true → wrote us s ≡ true → last_new p o (changes_of s (carried_of tx reads us)) ≡ reads s
last_of p tx s reads o [] is w = absurd (true≢false (sym w))
last_of p tx s reads o (u ∷ us) is w = elim (cases_eq s u.slot) [
  | inl here ↦ ap (last_new p o) (cond-true (u.slot == s) (record { tx = tx; slot = u.slot; old = u.old; new = reads u.slot } ∷ changes_of s (carried_of tx reads us)) (changes_of s (carried_of tx reads us)) (eq-eqb u.slot s (sym here)))
      ∙ last_in p tx s reads (if p tx then reads u.slot else o) us is (cond-true (p tx) _ _ is ∙ ap reads (sym here))
  | inr other ↦ ap (last_new p o) (cond-false (u.slot == s) (record { tx = tx; slot = u.slot; old = u.old; new = reads u.slot } ∷ changes_of s (carried_of tx reads us)) (changes_of s (carried_of tx reads us)) (ne_eqb u.slot s (λ e. other (sym e))))
      ∙ last_of p tx s reads o us is (elim (or_cases (s == u.slot) (wrote us s) w) [ inl here ↦ absurd (other (eqb-true s u.slot here)) | inr rest ↦ rest ])
]

last_not : (p : ℕ → Bool) (tx s : ℕ) (reads : ℕ → List ℕ) (o : List ℕ) (us : List Undo) → p tx ≡ false → last_new p o (changes_of s (carried_of tx reads us)) ≡ o
last_not p tx s reads o [] out = refl
last_not p tx s reads o (u ∷ us) out = elim (cases_eq s u.slot) [
  | inl here ↦ ap (last_new p o) (cond-true (u.slot == s) (record { tx = tx; slot = u.slot; old = u.old; new = reads u.slot } ∷ changes_of s (carried_of tx reads us)) (changes_of s (carried_of tx reads us)) (eq-eqb u.slot s (sym here)))
      ∙ ap (λ (x : List ℕ). last_new p x (changes_of s (carried_of tx reads us))) (cond-false (p tx) _ _ out) ∙ last_not p tx s reads o us out
  | inr other ↦ ap (last_new p o) (cond-false (u.slot == s) (record { tx = tx; slot = u.slot; old = u.old; new = reads u.slot } ∷ changes_of s (carried_of tx reads us)) (changes_of s (carried_of tx reads us)) (ne_eqb u.slot s (λ e. other (sym e))))
      ∙ last_not p tx s reads o us out
]

-- ---- of several transactions

-- each of these has P
abbrev pub Each : {A : Type 0} → (A → Type 0) → List A → Type 0
Each P [] = Unit {0}
Each P (x ∷ xs) = P x × Each P xs

-- each of these transactions that wrote the slot is one of those
abbrev WritersAre : (ℕ → Type 0) → (ℕ → List Undo) → ℕ → List ℕ → Type 0
WritersAre P undo s txs = Each (λ t. wrote (undo t) s ≡ true → P t) txs

abbrev pub is_in : ℕ → List ℕ → Bool
is_in t txs = list_any (λ x. x == t) txs

all_none : (txs : List ℕ) (s : ℕ) (reads : ℕ → List ℕ) (undo : ℕ → List Undo) → Each (λ t. wrote (undo t) s ≡ false) txs → changes_of s (carried txs reads undo) ≡ []
all_none [] s reads undo none = refl
all_none (x ∷ txs) s reads undo none =
    changes_of-append s (carried_of x reads (undo x)) (carried txs reads undo)
    ∙ ap (λ (l : List Change). l ++ changes_of s (carried txs reads undo)) (none_of x s reads (undo x) (none.0))
    ∙ all_none txs s reads undo (none.1)

all_in : (p : ℕ → Bool) (txs : List ℕ) (s : ℕ) (reads : ℕ → List ℕ) (undo : ℕ → List Undo) (o : List ℕ) → WritersAre (λ t. p t ≡ true) undo s txs → o ≡ reads s → last_new p o (changes_of s (carried txs reads undo)) ≡ reads s
all_in p [] s reads undo o are so = so
all_in p (x ∷ txs) s reads undo o are so =
    ap (last_new p o) (changes_of-append s (carried_of x reads (undo x)) (carried txs reads undo))
    ∙ last_new-lists p o (changes_of s (carried_of x reads (undo x))) (changes_of s (carried txs reads undo))
    ∙ all_in p txs s reads undo _ (are.1) (elim (cases_Bool (wrote (undo x) s)) [
      | inl w ↦ last_in p x s reads o (undo x) (are.0 w) so
      | inr none ↦ ap (last_new p o) (none_of x s reads (undo x) none) ∙ so
    ])

all_last : (p : ℕ → Bool) (txs : List ℕ) (t s : ℕ) (reads : ℕ → List ℕ) (undo : ℕ → List Undo) (o : List ℕ) → WritersAre (λ x. p x ≡ true) undo s txs → is_in t txs ≡ true → wrote (undo t) s ≡ true → last_new p o (changes_of s (carried txs reads undo)) ≡ reads s
all_last p [] t s reads undo o are listed w = absurd (true≢false (sym listed))
all_last p (x ∷ txs) t s reads undo o are listed w =
    ap (last_new p o) (changes_of-append s (carried_of x reads (undo x)) (carried txs reads undo))
    ∙ last_new-lists p o (changes_of s (carried_of x reads (undo x))) (changes_of s (carried txs reads undo))
    ∙ elim (or_cases (x == t) (is_in t txs) listed) [
      | inl here ↦
          let its : wrote (undo x) s ≡ true = ap (λ (k : ℕ). wrote (undo k) s) (eqb-true x t here) ∙ w in
          all_in p txs s reads undo (last_new p o (changes_of s (carried_of x reads (undo x)))) (are.1) (last_of p x s reads o (undo x) (are.0 its) its)
      | inr there ↦ all_last p txs t s reads undo (last_new p o (changes_of s (carried_of x reads (undo x)))) (are.1) there w
    ]

all_not : (p : ℕ → Bool) (txs : List ℕ) (s : ℕ) (reads : ℕ → List ℕ) (undo : ℕ → List Undo) (o : List ℕ) → WritersAre (λ x. p x ≡ false) undo s txs → last_new p o (changes_of s (carried txs reads undo)) ≡ o
all_not p [] s reads undo o are = refl
all_not p (x ∷ txs) s reads undo o are =
    ap (last_new p o) (changes_of-append s (carried_of x reads (undo x)) (carried txs reads undo))
    ∙ last_new-lists p o (changes_of s (carried_of x reads (undo x))) (changes_of s (carried txs reads undo))
    ∙ all_not p txs s reads undo (last_new p o (changes_of s (carried_of x reads (undo x)))) (are.1)
    ∙ elim (cases_Bool (wrote (undo x) s)) [
      | inl w ↦ last_not p x s reads o (undo x) (are.0 w)
      | inr none ↦ ap (last_new p o) (none_of x s reads (undo x) none)
    ]

all_first : (txs : List ℕ) (t s : ℕ) (reads : ℕ → List ℕ) (undo : ℕ → List Undo) (o : List ℕ) → WritersAre (λ x. x ≡ t) undo s txs → is_in t txs ≡ true → wrote (undo t) s ≡ true → first_old o (changes_of s (carried txs reads undo)) ≡ undone (undo t) reads s
all_first [] t s reads undo o are listed w = absurd (true≢false (sym listed))
all_first (x ∷ txs) t s reads undo o are listed w =
    ap (first_old o) (changes_of-append s (carried_of x reads (undo x)) (carried txs reads undo))
    ∙ first_old-lists o (changes_of s (carried_of x reads (undo x))) (changes_of s (carried txs reads undo))
    ∙ elim (cases_Bool (wrote (undo x) s)) [
      | inl its ↦ first_of x s reads (first_old o (changes_of s (carried txs reads undo))) (undo x) its ∙ ap (λ (k : ℕ). undone (undo k) reads s) (are.0 its)
      | inr none ↦ ap (first_old (first_old o (changes_of s (carried txs reads undo)))) (none_of x s reads (undo x) none)
          ∙ all_first txs t s reads undo o (are.1) (elim (or_cases (x == t) (is_in t txs) listed) [ inl here ↦ absurd (both_ways _ none (ap (λ (k : ℕ). wrote (undo k) s) (eqb-true x t here) ∙ w)) | inr there ↦ there ]) w
    ]

all_of : (P Q : ℕ → Type 0) (txs : List ℕ) → ((t : ℕ) → P t → Q t) → Each P txs → Each Q txs
all_of P Q [] f a = tt
all_of P Q (x ∷ txs) f a = (f x (a.0), all_of P Q txs f (a.1))

-- some of these wrote the slot, or none did
writer : (undo : ℕ → List Undo) (s : ℕ) (txs : List ℕ) → ((t : ℕ) × (is_in t txs ≡ true) × (wrote (undo t) s ≡ true)) ⊎ Each (λ t. wrote (undo t) s ≡ false) txs
writer undo s [] = inr tt
writer undo s (x ∷ txs) = elim (cases_Bool (wrote (undo x) s)) [
  | inl w ↦ inl (x, or_left (x == x) (is_in x txs) (eq-eqb x x refl), w)
  | inr none ↦ ⊎_elim (λ (h : (t : ℕ) × (is_in t txs ≡ true) × (wrote (undo t) s ≡ true)). inl (h.0, or_right (x == h.0) (is_in (h.0) txs) (h.1), h.2)) (λ (h : Each (λ t. wrote (undo t) s ≡ false) txs). inr (none, h)) (writer undo s txs)
]

among_listed : (P : ℕ → Type 0) (t : ℕ) (txs : List ℕ) → is_in t txs ≡ true → Each P txs → P t
among_listed P t [] listed a = absurd (true≢false (sym listed))
among_listed P t (x ∷ txs) listed a = elim (or_cases (x == t) (is_in t txs) listed) [
  | inl here ↦ subst P (eqb-true x t here) (a.0)
  | inr there ↦ among_listed P t txs there (a.1)
]

-- A generation is opened over area 0 as all slots read, with what the live transactions wrote carried.
pub carries : (notes : List Note) (base committed reads : ℕ → List ℕ) (live : ℕ → Bool) (undo : ℕ → List Undo) (txs : List ℕ)
    → Logged notes base committed reads live undo → Each (λ t. live t ≡ true) txs → ((t : ℕ) → live t ≡ true → is_in t txs ≡ true)
    → Logged (carried txs reads undo) reads committed reads live undo
carries notes base committed reads live undo txs l alive listed = record {
  mine = λ some tx s among one w.
      all_last (λ t. is_committed (carried txs reads undo) t || some t) txs tx s reads undo _ (all_of _ (λ t. wrote (undo t) s ≡ true → (is_committed (carried txs reads undo) t || some t) ≡ true) txs (λ t a x. or_right (is_committed (carried txs reads undo) t) (some t) (ap some (l.apart t tx s a (among tx one) x w) ∙ one)) alive) (listed tx (among tx one)) w;
  rest = λ some s among none. elim (writer undo s txs) [
    | inl h ↦
        let a : live (h.0) ≡ true = among_listed _ (h.0) txs (h.1) alive in
        let out : some (h.0) ≡ false = elim (cases_Bool (some (h.0))) [ inl taken ↦ absurd (both_ways _ (none (h.0) taken) (h.2)) | inr left ↦ left ] in
        all_not (λ t. is_committed (carried txs reads undo) t || some t) txs s reads undo _ (all_of _ (λ t. wrote (undo t) s ≡ true → (is_committed (carried txs reads undo) t || some t) ≡ false) txs (λ t b x. ap (λ (c : Bool). c || some t) (carried_commits_none txs reads undo t) ∙ ap some (l.apart t (h.0) s b a x (h.2)) ∙ out) alive)
        ∙ all_first txs (h.0) s reads undo (reads s) (all_of _ (λ t. wrote (undo t) s ≡ true → t ≡ h.0) txs (λ t b x. l.apart t (h.0) s b a x (h.2)) alive) (h.1) (h.2)
        ∙ l.back (h.0) s a (h.2)
    | inr nobody ↦ ap (given (λ t. is_committed (carried txs reads undo) t || some t) (reads s)) (all_none txs s reads undo nobody) ∙ l.free s (λ t a. among_listed (λ t. wrote (undo t) s ≡ false) t txs (listed t a) nobody)
  ];
  quiet = λ s e. refl;
  free = l.free;
  apart = l.apart;
  back = l.back;
  unfinished = λ t a. carried_commits_none txs reads undo t;
}

-- ---- a begin

last_new-on : (p q : ℕ → Bool) (o : List ℕ) (xs : List Change) → Each (λ c. p c.tx ≡ q c.tx) xs → last_new p o xs ≡ last_new q o xs
last_new-on p q o [] same = refl
last_new-on p q o (x ∷ xs) same = ap (λ (b : Bool). last_new p (if b then x.new else o) xs) (same.0) ∙ last_new-on p q (if q x.tx then x.new else o) xs (same.1)

all_changes : (P Q : Change → Type 0) (xs : List Change) → ((c : Change) → P c → Q c) → Each P xs → Each Q xs
all_changes P Q [] f a = tt
all_changes P Q (x ∷ xs) f a = (f x (a.0), all_changes P Q xs f (a.1))

-- a transaction begins under a number that no note has
pub begins : (notes : List Note) (base committed reads : ℕ → List ℕ) (live live' : ℕ → Bool) (undo undo' : ℕ → List Undo) (tx : ℕ)
    → Logged notes base committed reads live undo → live tx ≡ false → ((s : ℕ) → Each (λ c. c.tx ≢ tx) (changes_of s notes)) → is_committed notes tx ≡ false → undo' tx ≡ [] → ((t : ℕ) → t ≢ tx → live' t ≡ live t) → ((t : ℕ) → t ≢ tx → undo' t ≡ undo t)
    → Logged notes base committed reads live' undo'
begins notes base committed reads live live' undo undo' tx l idle fresh open_yet empty others same = record {
  mine = λ some t s among one w. without some s ∙ l.mine (less some) t s (less_among some among) (and_from (some t) (not (t == tx)) one (ap not (ne_eqb t tx (not_it t s w)))) (sym (as_it_was t s (not_it t s w)) ∙ w);
  rest = λ some s among none. without some s ∙ l.rest (less some) s (less_among some among) (λ t in_it. let parts = and_parts (some t) (not (t == tx)) in_it in sym (as_it_was t s (differs t (parts.1))) ∙ none t (parts.0));
  quiet = l.quiet;
  free = λ s none. l.free s (λ t a. sym (as_it_was t s (was_not t a)) ∙ none t (others t (was_not t a) ∙ a));
  apart = λ t v s a b x y. l.apart t v s (was_live t (not_it t s x) a) (was_live v (not_it v s y) b) (sym (as_it_was t s (not_it t s x)) ∙ x) (sym (as_it_was v s (not_it v s y)) ∙ y);
  back = λ t s a w. ap (λ (us : List Undo). undone us reads s) (same t (not_it t s w)) ∙ l.back t s (was_live t (not_it t s w) a) (sym (as_it_was t s (not_it t s w)) ∙ w);
  unfinished = λ t a. elim (cases_eq t tx) [
    | inl is ↦ ap (is_committed notes) is ∙ open_yet
    | inr other ↦ l.unfinished t (was_live t other a)
  ];
}
  where
    less : (ℕ → Bool) → ℕ → Bool
    less some t = some t && not (t == tx)

    not_it : (t s : ℕ) → wrote (undo' t) s ≡ true → t ≢ tx
    not_it t s w is = true≢false (sym w ∙ ap (λ (k : ℕ). wrote (undo' k) s) is ∙ ap (λ (us : List Undo). wrote us s) empty)

    was_not : (t : ℕ) → live t ≡ true → t ≢ tx
    was_not t a is = both_ways (live tx) idle (sym (ap live is) ∙ a)

    differs : (t : ℕ) → not (t == tx) ≡ true → t ≢ tx
    differs t is e = true≢false (sym is ∙ ap not (eq-eqb t tx e))

    was_live : (t : ℕ) → t ≢ tx → live' t ≡ true → live t ≡ true
    was_live t other a = sym (others t other) ∙ a

    as_it_was : (t s : ℕ) → t ≢ tx → wrote (undo' t) s ≡ wrote (undo t) s
    as_it_was t s other = ap (λ (us : List Undo). wrote us s) (same t other)

    less_among : (some : ℕ → Bool) → AreAmong some live' → AreAmong (less some) live
    less_among some among t in_it = let parts = and_parts (some t) (not (t == tx)) in_it in was_live t (differs t (parts.1)) (among t (parts.0))

    without : (some : ℕ → Bool) (s : ℕ) → given_with some notes base s ≡ given_with (less some) notes base s
    without some s = last_new-on _ _ (first_old (base s) (changes_of s notes)) (changes_of s notes) (all_changes (λ c. c.tx ≢ tx) (λ c. (is_committed notes c.tx || some c.tx) ≡ (is_committed notes c.tx || less some c.tx)) (changes_of s notes) (λ c other. grind (arith, ne_eqb c.tx tx other)) (fresh s))

-- ---- the beginning

-- a generation without notes, over slots that all read as committed
pub fresh : (base : ℕ → List ℕ) (undo : ℕ → List Undo) → Logged [] base base base (λ t. false) undo
fresh base undo = record {
  mine = λ some tx slot among one w. absurd (true≢false (sym (among tx one)));
  rest = λ some slot among none. refl;
  quiet = λ slot e. refl;
  free = λ slot none. refl;
  apart = λ t u slot a b x y. absurd (true≢false (sym a));
  back = λ t slot a w. absurd (true≢false (sym a));
  unfinished = λ t a. absurd (true≢false (sym a));
}

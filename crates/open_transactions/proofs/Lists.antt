-- What undoing the lists of all clients gives: for each slot the list that wrote it counts.
use Rattle.std.proofs.Common.{◌≡◌, ◌≢◌, ◌⊎◌, inl, inr, ℕ, zero, suc, ◌==◌, Bool, true, false, ◌||◌, if◌then◌else◌, List, [], ◌∷◌, ◌++◌, refl, sym, ◌∙◌, ap, arith}
use Rattle.std.proofs.lemmas.Bool.{cases_eq, cases_Bool, cond-true, cond-false, true≢false}
use Rattle.std.specs.List.{flat_map}
use Rattle.storage.specs.declared.slots.Undo.{Undo}
use Rattle.storage.specs.Slots.{put, wrote, undone, joined}
use Rattle.log_meaning.proofs.Undone.{put-here, put-other, undone-at, undone-not, undone-last, wrote-here, wrote-other, wrote-before}
use Rattle.open_transactions.specs.declared.client.Client.{Client}
use Rattle.open_transactions.specs.Clients.{of_client}

pub undone-append : (us vs : List Undo) (f : ℕ → List ℕ) (k : ℕ) → undone (us ++ vs) f k ≡ undone us (undone vs f) k
undone-append [] vs f k = refl
undone-append (u ∷ us) vs f k = ap (λ (b : List ℕ). if k == u.slot then u.old else b) (undone-append us vs f k)

-- a test that does not hold is false
pub never : (b : Bool) → (b ≡ true → ⊥) → b ≡ false
never b not = elim (cases_Bool b) [ inl its ↦ absurd (not its) | inr is ↦ is ]

pub neither : (us vs : List Undo) (s : ℕ) → wrote us s ≡ false → wrote vs s ≡ false → wrote (us ++ vs) s ≡ false
neither [] vs s a b = b
neither (u ∷ us) vs s a b = elim (cases_Bool (s == u.slot)) [
  | inl here ↦ absurd (true≢false (sym (ap (λ (x : Bool). x || wrote us s) here) ∙ a))
  | inr far ↦ ap (λ (x : Bool). x || wrote (us ++ vs) s) far ∙ neither us vs s (sym (ap (λ (x : Bool). x || wrote us s) far) ∙ a) b
]

-- the list of a client, and those of all clients
module _ (h : Client → List Undo) where
  abbrev pub list : List Client → ℕ → List Undo
  list cs k = of_client [] h cs k

  pub undone_none : (cs : List Client) (f : ℕ → List ℕ) (s : ℕ) → ((j : ℕ) → wrote (list cs j) s ≡ false) → undone (flat_map h cs) f s ≡ f s
  undone_none [] f s none = refl
  undone_none (c ∷ cs) f s none = undone-append (h c) (flat_map h cs) f s ∙ undone-not (h c) (undone (flat_map h cs) f) s (none 0) ∙ undone_none cs f s (λ j. none (suc j))

  -- where no other client wrote the slot
  pub undone_one : (cs : List Client) (k : ℕ) (f : ℕ → List ℕ) (s : ℕ) → ((j : ℕ) → j ≢ k → wrote (list cs j) s ≡ false) → undone (flat_map h cs) f s ≡ undone (list cs k) f s
  undone_one [] k f s alone = refl
  undone_one (c ∷ cs) zero f s alone = undone-append (h c) (flat_map h cs) f s ∙ undone-at (h c) (undone (flat_map h cs) f) f s (undone_none cs f s (λ j. alone (suc j) (λ e. omega (arith, e))))
  undone_one (c ∷ cs) (suc k) f s alone = undone-append (h c) (flat_map h cs) f s ∙ undone-not (h c) (undone (flat_map h cs) f) s (alone 0 (λ e. omega (arith, e))) ∙ undone_one cs k f s (λ j ne. alone (suc j) (λ e. ne (omega (arith, e))))

  -- some client wrote the slot, or none did
  pub writer : (cs : List Client) (s : ℕ) → ((k : ℕ) × (wrote (list cs k) s ≡ true)) ⊎ ((k : ℕ) → wrote (list cs k) s ≡ false)
  writer [] s = inr (λ k. refl)
  writer (c ∷ cs) s = elim (cases_Bool (wrote (h c) s)) [
    | inl its ↦ inl (0, its)
    | inr not ↦ elim (writer cs s) [
      | inl found ↦ inl (suc (found.0), found.1)
      | inr none ↦ inr (each_none c cs s not none)
    ]
  ]
    where
      each_none : (c : Client) (cs : List Client) (s : ℕ) → wrote (h c) s ≡ false → ((k : ℕ) → wrote (list cs k) s ≡ false) → (k : ℕ) → wrote (list (c ∷ cs) k) s ≡ false
      each_none c cs s not none zero = not
      each_none c cs s not none (suc k) = none k

  abbrev pub Apart : List Client → Type 0
  Apart cs = (i j s : ℕ) → wrote (list cs i) s ≡ true → wrote (list cs j) s ≡ true → i ≡ j

  -- the last write of one list is gone
  pub popped : (cs cs' : List Client) (k : ℕ) (l : List Undo) (u : Undo) → Apart cs → list cs k ≡ l ++ u ∷ [] → list cs' k ≡ l → ((j : ℕ) → j ≢ k → list cs' j ≡ list cs j)
      → (f : ℕ → List ℕ) (s : ℕ) → undone (flat_map h cs') (put f u.slot u.old) s ≡ undone (flat_map h cs) f s
  popped cs cs' k l u apart was now others f s = elim (writer cs s) [
    | inl found ↦ elim (cases_eq (found.0) k) [
      | inl is ↦
          undone_one cs' k (put f u.slot u.old) s (λ j ne. elsewhere (found.0) (found.1) j (λ e. ne (e ∙ is)))
          ∙ ap (λ (us : List Undo). undone us (put f u.slot u.old) s) now
          ∙ sym (undone-last l u f s)
          ∙ ap (λ (us : List Undo). undone us f s) (sym was)
          ∙ sym (undone_one cs k f s (λ j ne. other (found.0) (found.1) j (λ e. ne (e ∙ is))))
      | inr ne ↦
          undone_one cs' (found.0) (put f u.slot u.old) s (elsewhere (found.0) (found.1))
          ∙ ap (λ (us : List Undo). undone us (put f u.slot u.old) s) (others (found.0) ne)
          ∙ undone-at (list cs (found.0)) (put f u.slot u.old) f s (put-other f u.slot s u.old (λ here. ne (apart (found.0) k s (found.1) (it_wrote here))))
          ∙ sym (undone_one cs (found.0) f s (other (found.0) (found.1)))
    ]
    | inr none ↦
        undone_none cs' (put f u.slot u.old) s (λ j. never _ (λ w. true≢false (sym (was_wrote j w) ∙ none j)))
        ∙ put-other f u.slot s u.old (λ here. true≢false (sym (it_wrote here) ∙ none k))
        ∙ sym (undone_none cs f s none)
  ]
    where
      it_wrote : s ≡ u.slot → wrote (list cs k) s ≡ true
      it_wrote here = ap (λ (us : List Undo). wrote us s) was ∙ wrote-here l u s here

      was_wrote : (j : ℕ) → wrote (list cs' j) s ≡ true → wrote (list cs j) s ≡ true
      was_wrote j w = elim (cases_eq j k) [
        | inl is ↦ ap (λ (i : ℕ). wrote (list cs i) s) is ∙ ap (λ (us : List Undo). wrote us s) was ∙ wrote-before l u s (sym (ap (λ (us : List Undo). wrote us s) now) ∙ sym (ap (λ (i : ℕ). wrote (list cs' i) s) is) ∙ w)
        | inr ne ↦ ap (λ (us : List Undo). wrote us s) (sym (others j ne)) ∙ w
      ]

      other : (i : ℕ) → wrote (list cs i) s ≡ true → (j : ℕ) → j ≢ i → wrote (list cs j) s ≡ false
      other i w j ne = never _ (λ v. ne (apart j i s v w))

      elsewhere : (i : ℕ) → wrote (list cs i) s ≡ true → (j : ℕ) → j ≢ i → wrote (list cs' j) s ≡ false
      elsewhere i w j ne = never _ (λ v. ne (apart j i s (was_wrote j v) w))

  -- one list is gone
  pub committed : (cs cs' : List Client) (k : ℕ) → Apart cs → list cs' k ≡ [] → ((j : ℕ) → j ≢ k → list cs' j ≡ list cs j)
      → (f : ℕ → List ℕ) (s : ℕ) → undone (flat_map h cs') f s ≡ joined (list cs k) f (undone (flat_map h cs) f) s
  committed cs cs' k apart now others f s = elim (cases_Bool (wrote (list cs k) s)) [
    | inl its ↦ undone_none cs' f s (λ j. without j (λ ne. never _ (λ v. ne (apart j k s v its)))) ∙ sym (cond-true (wrote (list cs k) s) _ _ its)
    | inr not ↦ elim (writer cs s) [
      | inl found ↦
          let far : found.0 ≢ k = λ e. true≢false (sym (found.1) ∙ ap (λ (i : ℕ). wrote (list cs i) s) e ∙ not) in
          undone_one cs' (found.0) f s (λ j ne. without j (λ _. never _ (λ v. ne (apart j (found.0) s v (found.1)))))
          ∙ ap (λ (us : List Undo). undone us f s) (others (found.0) far)
          ∙ sym (undone_one cs (found.0) f s (λ j ne. never _ (λ v. ne (apart j (found.0) s v (found.1)))))
      | inr none ↦ undone_none cs' f s (λ j. without j (λ _. none j)) ∙ sym (undone_none cs f s none)
    ] ∙ sym (cond-false (wrote (list cs k) s) _ _ not)
  ]
    where
      without : (j : ℕ) → (j ≢ k → wrote (list cs j) s ≡ false) → wrote (list cs' j) s ≡ false
      without j f = elim (cases_eq j k) [
        | inl is ↦ ap (λ (i : ℕ). wrote (list cs' i) s) is ∙ ap (λ (us : List Undo). wrote us s) now
        | inr ne ↦ ap (λ (us : List Undo). wrote us s) (others j ne) ∙ f ne
      ]

  -- the lists are apart where one of them has become shorter
  pub apart_less : (cs cs' : List Client) (k : ℕ) → Apart cs → ((s : ℕ) → wrote (list cs' k) s ≡ true → wrote (list cs k) s ≡ true) → ((j : ℕ) → j ≢ k → list cs' j ≡ list cs j) → Apart cs'
  apart_less cs cs' k apart less others i j s v w = apart i j s (was i v) (was j w)
    where
      was : (i : ℕ) → wrote (list cs' i) s ≡ true → wrote (list cs i) s ≡ true
      was i v = elim (cases_eq i k) [
        | inl is ↦ ap (λ (x : ℕ). wrote (list cs x) s) is ∙ less s (sym (ap (λ (x : ℕ). wrote (list cs' x) s) is) ∙ v)
        | inr ne ↦ ap (λ (us : List Undo). wrote us s) (sym (others i ne)) ∙ v
      ]

  -- and where one of them has one write more, of a slot that no other has
  pub apart_more : (cs cs' : List Client) (k : ℕ) (u : Undo) → Apart cs → list cs' k ≡ list cs k ++ u ∷ [] → ((j : ℕ) → j ≢ k → list cs' j ≡ list cs j) → ((j : ℕ) → j ≢ k → wrote (list cs j) u.slot ≡ false) → Apart cs'
  apart_more cs cs' k u apart more others alone i j s v w = elim (cases_eq s u.slot) [
    | inl here ↦ one i here v ∙ sym (one j here w)
    | inr far ↦ apart i j s (was i far v) (was j far w)
  ]
    where
      one : (i : ℕ) → s ≡ u.slot → wrote (list cs' i) s ≡ true → i ≡ k
      one i here v = elim (cases_eq i k) [
        | inl is ↦ is
        | inr ne ↦ absurd (true≢false (sym v ∙ ap (λ (us : List Undo). wrote us s) (others i ne) ∙ ap (λ (x : ℕ). wrote (list cs i) x) here ∙ alone i ne))
      ]

      was : (i : ℕ) → s ≢ u.slot → wrote (list cs' i) s ≡ true → wrote (list cs i) s ≡ true
      was i far v = elim (cases_eq i k) [
        | inl is ↦ ap (λ (x : ℕ). wrote (list cs x) s) is ∙ sym (wrote-other (list cs k) u s far) ∙ sym (ap (λ (us : List Undo). wrote us s) more) ∙ sym (ap (λ (x : ℕ). wrote (list cs' x) s) is) ∙ v
        | inr ne ↦ ap (λ (us : List Undo). wrote us s) (sym (others i ne)) ∙ v
      ]

  -- one write more, with the slot written
  pub added : (cs cs' : List Client) (k : ℕ) (u : Undo) → Apart cs' → list cs' k ≡ list cs k ++ u ∷ [] → ((j : ℕ) → j ≢ k → list cs' j ≡ list cs j)
      → (f : ℕ → List ℕ) (bytes : List ℕ) → f u.slot ≡ u.old → (s : ℕ) → undone (flat_map h cs') (put f u.slot bytes) s ≡ undone (flat_map h cs) f s
  added cs cs' k u apart more others f bytes olds s =
      sym (popped cs' cs k (list cs k) u apart more refl (λ j ne. sym (others j ne)) (put f u.slot bytes) s)
      ∙ undone-at (flat_map h cs) (put (put f u.slot bytes) u.slot u.old) f s (again s)
    where
      again : (s : ℕ) → put (put f u.slot bytes) u.slot u.old s ≡ f s
      again s = elim (cases_eq s u.slot) [
        | inl here ↦ put-here (put f u.slot bytes) u.slot s u.old here ∙ sym olds ∙ ap f (sym here)
        | inr far ↦ put-other (put f u.slot bytes) u.slot s u.old far ∙ put-other f u.slot s bytes far
      ]

-- more of a client's list becomes due
pub falls_due : (h d : Client → List Undo) (cs cs' : List Client) (k : ℕ) (more : List Undo) → Apart h cs → list d cs' k ≡ more ++ list d cs k → ((j : ℕ) → j ≢ k → list d cs' j ≡ list d cs j)
    → ((s : ℕ) → wrote more s ≡ true → wrote (list h cs k) s ≡ true) → ((j s : ℕ) → wrote (list d cs j) s ≡ true → wrote (list h cs j) s ≡ true)
    → (f : ℕ → List ℕ) (s : ℕ) → undone (flat_map d cs') f s ≡ undone more (undone (flat_map d cs) f) s
falls_due h d cs cs' k more apart longer others its within f s = elim (writer h cs s) [
  | inl found ↦ elim (cases_eq (found.0) k) [
    | inl is ↦
        undone_one d cs' k f s (λ j ne. ap (λ (us : List Undo). wrote us s) (others j ne) ∙ far found j (λ e. ne (e ∙ is)))
        ∙ ap (λ (us : List Undo). undone us f s) longer
        ∙ undone-append more (list d cs k) f s
        ∙ sym (undone-at more (undone (flat_map d cs) f) (undone (list d cs k) f) s (undone_one d cs k f s (λ j ne. far found j (λ e. ne (e ∙ is)))))
    | inr ne ↦
        let not_more : wrote more s ≡ false = never _ (λ v. ne (sym (apart k (found.0) s (its s v) (found.1)))) in
        undone_one d cs' (found.0) f s (λ j off. elim (cases_eq j k) [
          | inl is ↦ ap (λ (i : ℕ). wrote (list d cs' i) s) is ∙ ap (λ (us : List Undo). wrote us s) longer ∙ neither more (list d cs k) s not_more (far found k (λ e. ne (sym e)))
          | inr other ↦ ap (λ (us : List Undo). wrote us s) (others j other) ∙ far found j off
        ])
        ∙ ap (λ (us : List Undo). undone us f s) (others (found.0) ne)
        ∙ sym (undone_one d cs (found.0) f s (far found))
        ∙ sym (undone-not more (undone (flat_map d cs) f) s not_more)
  ]
  | inr none ↦
      let not_more : wrote more s ≡ false = never _ (λ v. true≢false (sym (its s v) ∙ none k)) in
      undone_none d cs' f s (λ j. elim (cases_eq j k) [
        | inl is ↦ ap (λ (i : ℕ). wrote (list d cs' i) s) is ∙ ap (λ (us : List Undo). wrote us s) longer ∙ neither more (list d cs k) s not_more (never _ (λ v. true≢false (sym (within k s v) ∙ none k)))
        | inr other ↦ ap (λ (us : List Undo). wrote us s) (others j other) ∙ never _ (λ v. true≢false (sym (within j s v) ∙ none j))
      ])
      ∙ sym (undone_none d cs f s (λ j. never _ (λ v. true≢false (sym (within j s v) ∙ none j))))
      ∙ sym (undone-not more (undone (flat_map d cs) f) s not_more)
]
  where
    far : (found : (i : ℕ) × (wrote (list h cs i) s ≡ true)) → (j : ℕ) → j ≢ found.0 → wrote (list d cs j) s ≡ false
    far found j off = never _ (λ v. off (apart j (found.0) s (within j s v) (found.1)))

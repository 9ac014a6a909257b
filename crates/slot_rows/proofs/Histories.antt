-- Mixes of histories, where a client goes back, writes, or ends.
use Rattle.std.proofs.Common.{◌≡◌, ◌≢◌, ◌⊎◌, inl, inr, ⊎_elim, ℕ, zero, suc, ◌<◌, ◌≤◌, min, Bool, true, false, refl, sym, ap, ◌∙◌, subst, arith}
use Rattle.std.proofs.lemmas.Bool.{cases_eq, cases_lt}
use Rattle.slot_rows.specs.Mixes.{History, IsMixed}

-- a place of a mix
abbrev pub Place : {V : Type 0} → History V → (ℕ → ℕ) → ℕ → V → Type 0
Place h at k v = ((c : ℕ) × (h.wrote c k ≡ true) × (v ≡ h.back c (at c) k)) ⊎ (((c : ℕ) → h.wrote c k ≡ false) × (v ≡ h.now k))

-- a history of sixteen clients that write apart
pub record IsApart {V : Type 0} (h : History V) : Type 0 where
  pub few : (c k : ℕ) → 16 ≤ c → h.wrote c k ≡ false
  pub apart : (c d k : ℕ) → h.wrote c k ≡ true → h.wrote d k ≡ true → c ≡ d
  pub other : (c n k : ℕ) → h.wrote c k ≡ false → h.back c n k ≡ h.now k

-- a test does not both hold and fail
pub clash : {W : Type 0} (b : Bool) → b ≡ true → b ≡ false → W
clash b t f = let e : true ≡ false = sym t ∙ f in absurd (cc e)

pub not_true : (b : Bool) → (b ≡ true → ⊥) → b ≡ false
not_true true never = absurd (never refl)
not_true false never = refl

-- one of the first n tests holds, or none does
one_or_none : (f : ℕ → Bool) (n : ℕ) → ((c : ℕ) × (f c ≡ true)) ⊎ ((c : ℕ) → c < n → f c ≡ false)
one_or_none f zero = inr (λ c lt. absurd (omega (arith, lt)))
one_or_none f (suc n) = by_last (f n) refl (one_or_none f n)
  where
    by_last : (b : Bool) → f n ≡ b → ((c : ℕ) × (f c ≡ true)) ⊎ ((c : ℕ) → c < n → f c ≡ false) → ((c : ℕ) × (f c ≡ true)) ⊎ ((c : ℕ) → c < suc n → f c ≡ false)
    by_last true e before = inl (n, e)
    by_last false e (inl found) = inl found
    by_last false e (inr none) = inr (λ c lt. ⊎_elim (λ (is : c ≡ n). ap f is ∙ e) (λ (ne : c ≢ n). none c (omega arith)) (cases_eq c n))

module _ {V : Type 0} (h : History V) (sound : IsApart h) where
  pub others_none : (c k : ℕ) → h.wrote c k ≡ true → (d : ℕ) → d ≢ c → h.wrote d k ≡ false
  others_none c k w d ne = not_true (h.wrote d k) (λ is. ne (sound.apart d c k is w))

  pub place_of : (at : ℕ → ℕ) (mixed : ℕ → V) → IsMixed h at mixed → (k : ℕ) → Place h at k (mixed k)
  place_of at mixed m k = by_some (one_or_none (λ c. h.wrote c k) 16)
    where
      by_some : ((c : ℕ) × (h.wrote c k ≡ true)) ⊎ ((c : ℕ) → c < 16 → h.wrote c k ≡ false) → Place h at k (mixed k)
      by_some (inl found) = inl (found.0, found.1, m.of found.0 k found.1)
      by_some (inr none) =
          let all : (c : ℕ) → h.wrote c k ≡ false = λ c. ⊎_elim (λ (lt : c < 16). none c lt) (λ (le : 16 ≤ c). sound.few c k le) (cases_lt c 16) in
          inr (all, m.rest k all)

  pub mixed_of : (at : ℕ → ℕ) (mixed : ℕ → V) → ((k : ℕ) → Place h at k (mixed k)) → IsMixed h at mixed
  mixed_of at mixed places = record { of = λ c k w. of_place c k w (places k); rest = λ k none. rest_place k none (places k) }
    where
      of_place : (c k : ℕ) → h.wrote c k ≡ true → Place h at k (mixed k) → mixed k ≡ h.back c (at c) k
      of_place c k w (inl (d, is, e)) = subst (λ (n : ℕ). mixed k ≡ h.back n (at n) k) (sound.apart d c k is w) e
      of_place c k w (inr (none, e)) = clash (h.wrote c k) w (none c)

      rest_place : (k : ℕ) → ((c : ℕ) → h.wrote c k ≡ false) → Place h at k (mixed k) → mixed k ≡ h.now k
      rest_place k none (inl (d, is, e)) = clash (h.wrote d k) is (none d)
      rest_place k none (inr (all, e)) = e

-- the client goes back to a number
pub record Returns {V : Type 0} (old new : History V) (client n : ℕ) : Type 0 where
  pub fewer : (k : ℕ) → new.wrote client k ≡ true → old.wrote client k ≡ true
  pub same : (c k : ℕ) → c ≢ client → new.wrote c k ≡ old.wrote c k
  pub now : (k : ℕ) → new.now k ≡ old.back client n k
  pub own : (i k : ℕ) → new.back client i k ≡ old.back client (min i n) k
  pub others : (c i k : ℕ) → c ≢ client → old.wrote c k ≡ true → new.back c i k ≡ old.back c i k

-- the numbers of a mix before the client went back to n
pub record IsLowered (client n : ℕ) (before after : ℕ → ℕ) : Type 0 where
  pub own : before client ≡ min (after client) n
  pub others : (c : ℕ) → c ≢ client → before c ≡ after c

module _ {V : Type 0} (old new : History V) (client n : ℕ) (sound_old : IsApart old) (sound_new : IsApart new) (r : Returns old new client n) (before after : ℕ → ℕ) (low : IsLowered client n before after) where
  none_old : (k : ℕ) → old.wrote client k ≡ false → ((c : ℕ) → new.wrote c k ≡ false) → (c : ℕ) → old.wrote c k ≡ false
  none_old k is none c = elim (cases_eq c client) [
    | inl e ↦ ap (λ (d : ℕ). old.wrote d k) e ∙ is
    | inr ne ↦ sym (r.same c k ne) ∙ none c
  ]

  none_new : (k : ℕ) → new.wrote client k ≡ false → ((c : ℕ) → c ≢ client → old.wrote c k ≡ false) → (c : ℕ) → new.wrote c k ≡ false
  none_new k is none c = elim (cases_eq c client) [
    | inl e ↦ ap (λ (d : ℕ). new.wrote d k) e ∙ is
    | inr ne ↦ r.same c k ne ∙ none c ne
  ]

  own_is : (k : ℕ) → new.back client (after client) k ≡ old.back client (before client) k
  own_is k = r.own (after client) k ∙ ap (λ (i : ℕ). old.back client i k) (sym low.own)

  other_is : (c k : ℕ) → c ≢ client → old.wrote c k ≡ true → new.back c (after c) k ≡ old.back c (before c) k
  other_is c k ne w = r.others c (after c) k ne w ∙ ap (λ (i : ℕ). old.back c i k) (sym (low.others c ne))

  pub place_before : (k : ℕ) (v : V) → Place new after k v → Place old before k v
  place_before k v (inl (c, w, e)) = elim (cases_eq c client) [
    | inl is ↦
        let own : new.wrote client k ≡ true = sym (ap (λ (d : ℕ). new.wrote d k) is) ∙ w in
        inl (client, r.fewer k own, e ∙ (ap (λ (d : ℕ). new.back d (after d) k) is ∙ own_is k))
    | inr ne ↦ let was = sym (r.same c k ne) ∙ w in inl (c, was, e ∙ other_is c k ne was)
  ]
  place_before k v (inr (none, e)) = by_own (old.wrote client k) refl
    where
      by_own : (b : Bool) → old.wrote client k ≡ b → Place old before k v
      by_own true is = inl (client, is, e ∙ (sym (sound_new.other client (after client) k (none client)) ∙ own_is k))
      by_own false is = inr (none_old k is none, e ∙ (r.now k ∙ sound_old.other client n k is))

  pub place_after : (k : ℕ) (v : V) → Place old before k v → Place new after k v
  place_after k v (inl (c, w, e)) = elim (cases_eq c client) [
    | inl is ↦ own_after (sym (ap (λ (d : ℕ). old.wrote d k) is) ∙ w) (e ∙ ap (λ (d : ℕ). old.back d (before d) k) is) (new.wrote client k) refl
    | inr ne ↦ inl (c, r.same c k ne ∙ w, e ∙ sym (other_is c k ne w))
  ]
    where
      own_after : old.wrote client k ≡ true → v ≡ old.back client (before client) k → (b : Bool) → new.wrote client k ≡ b → Place new after k v
      own_after was is true has = inl (client, has, is ∙ sym (own_is k))
      own_after was is false has = inr (
        none_new k has (λ d ne. others_none old sound_old client k was d ne),
        is ∙ (sym (own_is k) ∙ sound_new.other client (after client) k has),
      )
  place_after k v (inr (none, e)) = inr (
    none_new k (not_true (new.wrote client k) (λ is. clash (old.wrote client k) (r.fewer k is) (none client))) (λ d ne. none d),
    e ∙ (sym (sound_old.other client n k (none client)) ∙ sym (r.now k)),
  )

-- the client's history ends as it is
pub record Closes {V : Type 0} (old new : History V) (client : ℕ) : Type 0 where
  pub none : (k : ℕ) → new.wrote client k ≡ false
  pub same : (c k : ℕ) → c ≢ client → new.wrote c k ≡ old.wrote c k
  pub now : (k : ℕ) → new.now k ≡ old.now k
  pub others : (c i k : ℕ) → c ≢ client → new.back c i k ≡ old.back c i k

module _ {V : Type 0} (old new : History V) (client : ℕ) (sound : IsApart old) (r : Closes old new client) (before after : ℕ → ℕ) (others : (c : ℕ) → c ≢ client → before c ≡ after c)
    (whole : (k : ℕ) → old.back client (before client) k ≡ old.now k) where
  pub open_before : (k : ℕ) (v : V) → Place new after k v → Place old before k v
  open_before k v (inl (c, w, e)) = elim (cases_eq c client) [
    | inl is ↦ clash (new.wrote client k) (sym (ap (λ (d : ℕ). new.wrote d k) is) ∙ w) (r.none k)
    | inr ne ↦ inl (c, sym (r.same c k ne) ∙ w, e ∙ (r.others c (after c) k ne ∙ ap (λ (i : ℕ). old.back c i k) (sym (others c ne))))
  ]
  open_before k v (inr (none, e)) = by_own (old.wrote client k) refl
    where
      by_own : (b : Bool) → old.wrote client k ≡ b → Place old before k v
      by_own true is = inl (client, is, e ∙ (r.now k ∙ sym (whole k)))
      by_own false is = inr (
        λ c. ⊎_elim (λ (same : c ≡ client). ap (λ (d : ℕ). old.wrote d k) same ∙ is) (λ (ne : c ≢ client). sym (r.same c k ne) ∙ none c) (cases_eq c client),
        e ∙ r.now k,
      )

  pub closed_after : (k : ℕ) (v : V) → Place old before k v → Place new after k v
  closed_after k v (inl (c, w, e)) = elim (cases_eq c client) [
    | inl is ↦
        let own : old.wrote client k ≡ true = sym (ap (λ (d : ℕ). old.wrote d k) is) ∙ w in
        inr (
          λ d. ⊎_elim (λ (same : d ≡ client). ap (λ (m : ℕ). new.wrote m k) same ∙ r.none k) (λ (ne : d ≢ client). r.same d k ne ∙ others_none old sound client k own d ne) (cases_eq d client),
          e ∙ (ap (λ (d : ℕ). old.back d (before d) k) is ∙ (whole k ∙ sym (r.now k))),
        )
    | inr ne ↦ inl (c, r.same c k ne ∙ w, e ∙ (ap (λ (i : ℕ). old.back c i k) (others c ne) ∙ sym (r.others c (after c) k ne)))
  ]
  closed_after k v (inr (none, e)) = inr (
    λ c. ⊎_elim (λ (same : c ≡ client). ap (λ (m : ℕ). new.wrote m k) same ∙ r.none k) (λ (ne : c ≢ client). r.same c k ne ∙ none c) (cases_eq c client),
    e ∙ sym (r.now k),
  )

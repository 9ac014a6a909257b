-- A number put into numbers in ascending order.
use Rattle.std.proofs.Common.{◌≡◌, ◌≢◌, ◌⊎◌, ◌↔◌, ℕ, zero, suc, ◌<◌, ◌≤◌, Bool, true, false, cond, List, [], ◌∷◌, ◌++◌, length, take, drop, get_or, inl, inr, refl, ap, arith}
use Rattle.std.specs.Prelude.{nat_lt}
use Rattle.std.specs.List.{Contains}
use Rattle.std.proofs.lemmas.Bool.Decides.{nat_tests}
use Rattle.database_meaning.specs.Waiting.{IsAscending}
use Rattle.key_index.specs.Left.{Lists}
use Rattle.row_keys.specs.Questions.{below}

abbrev pub inserted : List ℕ → ℕ → List ℕ
inserted [] c = c ∷ []
inserted (x ∷ xs) c = cond (nat_lt x c) (x ∷ inserted xs c) (c ∷ x ∷ xs)

lt_from : (a b : ℕ) → nat_lt a b ≡ true → a < b
lt_from a b h = grind (arith, nat_tests)

ge_from : (a b : ℕ) → nat_lt a b ≡ false → b ≤ a
ge_from a b h = grind (arith, nat_tests)

pub inserted_is : (xs : List ℕ) (c : ℕ) → take (below xs c) xs ++ c ∷ drop (below xs c) xs ≡ inserted xs c
inserted_is [] c = refl
inserted_is (x ∷ xs) c = by (nat_lt x c) (inserted_is xs c)
  where
    by : (b : Bool) → take (below xs c) xs ++ c ∷ drop (below xs c) xs ≡ inserted xs c
        → take (cond b (suc (below xs c)) 0) (x ∷ xs) ++ c ∷ drop (cond b (suc (below xs c)) 0) (x ∷ xs) ≡ cond b (x ∷ inserted xs c) (c ∷ x ∷ xs)
    by true again = ap (λ (zs : List ℕ). x ∷ zs) again
    by false again = refl

pub inserted_lists : (xs : List ℕ) (c d : ℕ) → Lists (inserted xs c) d ↔ (Lists xs d ⊎ (c ≡ d))
inserted_lists [] c d = ((λ h. elim h [ inl e ↦ inr e | inr f ↦ inl f ]), (λ h. elim h [ inl f ↦ inr f | inr e ↦ inl e ]))
inserted_lists (x ∷ xs) c d = by (nat_lt x c) (inserted_lists xs c d)
  where
    by : (b : Bool) → Lists (inserted xs c) d ↔ (Lists xs d ⊎ (c ≡ d)) → Lists (cond b (x ∷ inserted xs c) (c ∷ x ∷ xs)) d ↔ (Lists (x ∷ xs) d ⊎ (c ≡ d))
    by true again = (
      λ h. elim h [ inl e ↦ inl (inl e) | inr t ↦ elim (again.0 t) [ inl l ↦ inl (inr l) | inr e ↦ inr e ] ],
      λ h. elim h [ inl l ↦ elim l [ inl e ↦ inl e | inr t ↦ inr (again.1 (inl t)) ] | inr e ↦ inr (again.1 (inr e)) ],
    )
    by false again = (λ h. elim h [ inl e ↦ inr e | inr t ↦ inl t ], λ h. elim h [ inl l ↦ inr l | inr e ↦ inl e ])

after_first : (x c : ℕ) (xs : List ℕ) → x < c → IsAscending (x ∷ xs) → IsAscending (inserted xs c) → (Lists xs c → ⊥) → IsAscending (x ∷ inserted xs c)
after_first x c [] lt up again never = (lt, tt)
after_first x c (y ∷ ys) lt up again never = by (nat_lt y c) refl again
  where
    by : (b : Bool) → nat_lt y c ≡ b → IsAscending (cond b (y ∷ inserted ys c) (c ∷ y ∷ ys)) → IsAscending (x ∷ cond b (y ∷ inserted ys c) (c ∷ y ∷ ys))
    by true e rest = (up.0, rest)
    by false e rest = (lt, rest)

ascending_tail : (x : ℕ) (xs : List ℕ) → IsAscending (x ∷ xs) → IsAscending xs
ascending_tail x [] h = tt
ascending_tail x (y ∷ ys) h = h.1

pub inserted_ascending : (xs : List ℕ) (c : ℕ) → IsAscending xs → (Lists xs c → ⊥) → IsAscending (inserted xs c)
inserted_ascending [] c up never = tt
inserted_ascending (x ∷ xs) c up never = by (nat_lt x c) refl (inserted_ascending xs c (ascending_tail x xs up) (λ h. never (inr h)))
  where
    by : (b : Bool) → nat_lt x c ≡ b → IsAscending (inserted xs c) → IsAscending (cond b (x ∷ inserted xs c) (c ∷ x ∷ xs))
    by true e again = after_first x c xs (lt_from x c e) up again (λ h. never (inr h))
    by false e again =
        let ge = ge_from x c e in
        let ne : x ≢ c = λ is. never (inl is) in
        let lt : c < x = omega (arith, ge, ne) in
        (lt, up)

pub contains_lists : (xs : List ℕ) (d : ℕ) → Contains xs d ↔ Lists xs d
contains_lists xs d = ((λ c. to xs c.0 c.1 c.2), (λ h. from xs h))
  where
    to : (xs : List ℕ) (k : ℕ) → k < length xs → get_or xs k d ≡ d → Lists xs d
    to [] k h e = absurd (omega arith)
    to (x ∷ xs) zero h e = inl e
    to (x ∷ xs) (suc k) h e = inr (to xs k (omega arith) e)

    from : (xs : List ℕ) → Lists xs d → Contains xs d
    from [] h = absurd h
    from (x ∷ xs) (inl e) = (0, omega arith, e)
    from (x ∷ xs) (inr h) = let c = from xs h in let lt = c.1 in (suc c.0, omega (arith, lt), c.2)

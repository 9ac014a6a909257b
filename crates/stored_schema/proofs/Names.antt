-- Names that are the same in any case, and names among others.
use Rattle.std.proofs.Common.{◌≡◌, ◌<◌, ℕ, zero, suc, ◌+◌, inl, inr, Bool, true, false, ◌==◌, ◌&&◌, ◌||◌, cond, List, [], ◌∷◌, length, get_or, Some, refl, sym, ap, ◌∙◌, subst, arith}
use Rattle.std.proofs.lemmas.Bool.{and_parts, both_ways, cases_Bool, eq-eqb, eqb-true, or_parts, or_right}
use Rattle.abl_values.specs.Masks.{same_bytes}
use Rattle.abl_values.specs.Order.{folded}
use Rattle.abl_values.specs.Schema.{number_of_name, same_name}
use Rattle.abl_values.specs.Sound.{has_twice, is_among}

-- ---- names that are the same in any case

pub same_bytes-equal : (xs ys : List ℕ) → same_bytes xs ys ≡ true → xs ≡ ys
same_bytes-equal [] [] h = refl
same_bytes-equal [] (y ∷ ys) h = cc
same_bytes-equal (x ∷ xs) [] h = cc
same_bytes-equal (x ∷ xs) (y ∷ ys) h =
    let both = and_parts (x == y) (same_bytes xs ys) h in
    let heads = eqb-true x y both.0 in
    let tails = same_bytes-equal xs ys both.1 in
    cc

pub same_bytes-itself : (xs : List ℕ) → same_bytes xs xs ≡ true
same_bytes-itself [] = refl
same_bytes-itself (x ∷ xs) = ap (λ b. b && same_bytes xs xs) (eq-eqb x x refl) ∙ same_bytes-itself xs

pub same_name-itself : (a : List ℕ) → same_name a a ≡ true
same_name-itself a = same_bytes-itself (folded a)

same_if : (a b : List ℕ) → folded a ≡ folded b → same_name a b ≡ true
same_if a b h = ap (same_bytes (folded a)) (sym h) ∙ same_bytes-itself (folded a)

pub same_name-back : (a b : List ℕ) → same_name a b ≡ true → same_name b a ≡ true
same_name-back a b h = same_if b a (sym (same_bytes-equal (folded a) (folded b) h))

pub same_name-along : (a b c : List ℕ) → same_name a b ≡ true → same_name b c ≡ true → same_name a c ≡ true
same_name-along a b c h i = same_if a c (same_bytes-equal (folded a) (folded b) h ∙ same_bytes-equal (folded b) (folded c) i)

-- ---- among names

among_at : (names : List (List ℕ)) (name : List ℕ) (q : ℕ) → q < length names → same_name (get_or names q []) name ≡ true → is_among name names ≡ true
among_at [] name q h e = absurd (omega arith)
among_at (n ∷ ns) name zero h e = ap (λ b. b || is_among name ns) e
among_at (n ∷ ns) name (suc q) h e = or_right (same_name n name) (is_among name ns) (among_at ns name q (omega arith) e)

-- where no name stands twice, one is found at its place
found_from : (names : List (List ℕ)) (name : List ℕ) (n k : ℕ) → has_twice names ≡ false → k < length names → same_name (get_or names k []) name ≡ true → number_of_name n names name ≡ Some (n + k)
found_from [] name n k once h e = absurd (omega arith)
found_from (x ∷ xs) name n zero once h e =
    let same : n ≡ n + 0 = omega arith in
    ap (λ (c : Bool). cond c (Some n) (number_of_name (n + 1) xs name)) e ∙ ap (λ (m : ℕ). Some m) same
found_from (x ∷ xs) name n (suc k) once h e =
    let parts = or_parts (is_among x xs) (has_twice xs) once in
    let more : n + 1 + k ≡ n + suc k = omega arith in
    elim (cases_Bool (same_name x name)) [
      | inl same ↦ absurd (both_ways (is_among x xs) parts.0 (among_at xs x k (omega arith) (same_name-along (get_or xs k []) name x e (same_name-back x name same))))
      | inr other ↦
          ap (λ (c : Bool). cond c (Some n) (number_of_name (n + 1) xs name)) other ∙ found_from xs name (n + 1) k parts.1 (omega arith) e ∙ ap (λ (m : ℕ). Some m) more
    ]

pub found_at : (names : List (List ℕ)) (name : List ℕ) (k : ℕ) → has_twice names ≡ false → k < length names → same_name (get_or names k []) name ≡ true → number_of_name 0 names name ≡ Some k
found_at names name k once h e =
    let number : 0 + k ≡ k = omega arith in
    found_from names name 0 k once h e ∙ ap (λ (m : ℕ). Some m) number

-- a name that is found is at that place
pub record IsFoundAt (names : List (List ℕ)) (name : List ℕ) (n k : ℕ) : Type 0 where
  pub place : ℕ
  pub number : n + place ≡ k
  pub within : place < length names
  pub same : same_name (get_or names place []) name ≡ true

place_of : (names : List (List ℕ)) (name : List ℕ) (n k : ℕ) → number_of_name n names name ≡ Some k → IsFoundAt names name n k
place_of [] name n k e = cc
place_of (x ∷ xs) name n k e = by_test (λ f. place_of xs name (n + 1) k f) (same_name x name) refl e
  where
    by_test : (number_of_name (n + 1) xs name ≡ Some k → IsFoundAt xs name (n + 1) k) → (b : Bool) → same_name x name ≡ b → cond b (Some n) (number_of_name (n + 1) xs name) ≡ Some k → IsFoundAt (x ∷ xs) name n k
    by_test again true is e =
        let first : n ≡ k = cc in
        record { place = 0; number = omega arith; within = omega arith; same = is }
    by_test again false is e =
        let later = again e in
        record { place = suc later.place; number = omega (arith, later.number); within = omega (arith, later.within); same = later.same }

pub found-place : (names : List (List ℕ)) (name : List ℕ) (k : ℕ) → number_of_name 0 names name ≡ Some k → (k < length names) × (same_name (get_or names k []) name ≡ true)
found-place names name k e =
    let at = place_of names name 0 k e in
    let same : at.place ≡ k = omega (arith, at.number) in
    (omega (arith, same, at.within), subst (λ (i : ℕ). same_name (get_or names i []) name ≡ true) same at.same)

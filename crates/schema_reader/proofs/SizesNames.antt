-- Names that are the same in any case, among other names.
use Rattle.std.proofs.Common.{◌≡◌, inl, inr, ℕ, ◌+◌, true, false, ◌==◌, ◌&&◌, ◌||◌, if◌then◌else◌, cond, List, [], ◌∷◌, ◌++◌, refl, sym, ap, ◌∙◌, arith, zero-add, add-zero}
use Rattle.std.proofs.lemmas.Bool.{and_parts, eqb-true, eq-eqb, or_parts, or_from, cases_Bool}
use Rattle.std.proofs.lemmas.Bool.Decides.{nat_tests}
use Rattle.std.proofs.lemmas.List.Folds.{list_any-append}
use Rattle.abl_values.specs.Masks.{same_bytes}
use Rattle.abl_values.specs.Order.{folded}
use Rattle.abl_values.specs.Schema.{same_name}
use Rattle.abl_values.specs.Sound.{is_among, has_twice}

-- ---- two names

eqb-swap : (x y : ℕ) → (x == y) ≡ (y == x)
eqb-swap x y = grind (arith, nat_tests)

same_bytes-swap : (xs ys : List ℕ) → same_bytes xs ys ≡ same_bytes ys xs
same_bytes-swap [] [] = refl
same_bytes-swap [] (y ∷ ys) = refl
same_bytes-swap (x ∷ xs) [] = refl
same_bytes-swap (x ∷ xs) (y ∷ ys) =
    ap (λ b. b && same_bytes xs ys) (eqb-swap x y) ∙ ap (λ b. (y == x) && b) (same_bytes-swap xs ys)

pub same_bytes-equal : (xs ys : List ℕ) → same_bytes xs ys ≡ true → xs ≡ ys
same_bytes-equal [] [] h = refl
same_bytes-equal [] (y ∷ ys) h = cc
same_bytes-equal (x ∷ xs) [] h = cc
same_bytes-equal (x ∷ xs) (y ∷ ys) h =
    let both = and_parts (x == y) (same_bytes xs ys) h in
    let heads = eqb-true x y both.0 in
    let tails = same_bytes-equal xs ys both.1 in
    cc

pub same_bytes-itself : (xs : List ℕ) → same_bytes xs xs ≡ true
same_bytes-itself [] = refl
same_bytes-itself (x ∷ xs) = ap (λ b. b && same_bytes xs xs) (eq-eqb x x refl) ∙ same_bytes-itself xs

pub same_name-swap : (a b : List ℕ) → same_name a b ≡ same_name b a
same_name-swap a b = same_bytes-swap (folded a) (folded b)

pub same_name-folded : (a b : List ℕ) → same_name a b ≡ true → folded a ≡ folded b
same_name-folded a b h = same_bytes-equal (folded a) (folded b) h

pub same_if : (a b : List ℕ) → folded a ≡ folded b → same_name a b ≡ true
same_if a b h = ap (same_bytes (folded a)) (sym h) ∙ same_bytes-itself (folded a)

-- of two names that are the same, each is the same as what the other is
pub same_name-left : (a b x : List ℕ) → same_name a b ≡ true → same_name a x ≡ same_name b x
same_name-left a b x h = ap (λ (k : List ℕ). same_bytes k (folded x)) (same_name-folded a b h)

pub same_name-right : (x a b : List ℕ) → same_name a b ≡ true → same_name x a ≡ same_name x b
same_name-right x a b h = ap (λ (k : List ℕ). same_bytes (folded x) k) (same_name-folded a b h)

-- ---- among names

pub is_among-append : (name : List ℕ) (xs ys : List (List ℕ)) → is_among name (xs ++ ys) ≡ (is_among name xs || is_among name ys)
is_among-append name xs ys = list_any-append (λ n. same_name n name) xs ys

pub is_among-same : (a b : List ℕ) → same_name a b ≡ true → (names : List (List ℕ)) → is_among a names ≡ is_among b names
is_among-same a b h [] = refl
is_among-same a b h (n ∷ ns) =
    ap (λ c. c || is_among a ns) (same_name-right n a b h) ∙ ap (λ c. same_name n b || c) (is_among-same a b h ns)

-- one more name, which is not there
pub has_twice_push : (names : List (List ℕ)) (name : List ℕ) → has_twice names ≡ false → is_among name names ≡ false → has_twice (names ++ name ∷ []) ≡ false
has_twice_push [] name h new = refl
has_twice_push (n ∷ ns) name h new =
    let parts = or_parts (is_among n ns) (has_twice ns) h in
    let apart = or_parts (same_name n name) (is_among name ns) new in
    let others : is_among n (ns ++ name ∷ []) ≡ false = is_among-append n ns (name ∷ []) ∙ or_from (is_among n ns) (same_name name n || false) parts.0 (or_from (same_name name n) false (same_name-swap name n ∙ apart.0) refl) in
    or_from (is_among n (ns ++ name ∷ [])) (has_twice (ns ++ name ∷ [])) others (has_twice_push ns name parts.1 apart.1)

-- this much for each of the names that is the same
abbrev pub for_each_same : ℕ → List ℕ → List (List ℕ) → ℕ
for_each_same much name [] = 0
for_each_same much name (n ∷ ns) = (if same_name name n then much else 0) + for_each_same much name ns

for_none : (much : ℕ) (name : List ℕ) (names : List (List ℕ)) → is_among name names ≡ false → for_each_same much name names ≡ 0
for_none much name [] h = refl
for_none much name (n ∷ ns) h =
    let apart = or_parts (same_name n name) (is_among name ns) h in
    let test : same_name name n ≡ false = same_name-swap name n ∙ apart.0 in
    ap (λ b. cond b much 0 + for_each_same much name ns) test ∙ zero-add (for_each_same much name ns) ∙ for_none much name ns apart.1

-- where no name stands twice, one is the same
pub for_each_same-once : (much : ℕ) (name : List ℕ) (names : List (List ℕ)) → is_among name names ≡ true → has_twice names ≡ false → for_each_same much name names ≡ much
for_each_same-once much name [] h once = cc
for_each_same-once much name (n ∷ ns) h once =
    let parts = or_parts (is_among n ns) (has_twice ns) once in
    elim (cases_Bool (same_name n name)) [
      | inl same ↦
          (let test : same_name name n ≡ true = same_name-swap name n ∙ same in
          let none = for_none much name ns (is_among-same name n test ns ∙ parts.0) in
          ap (λ b. cond b much 0 + for_each_same much name ns) test ∙ ap (λ k. much + k) none ∙ add-zero much)
      | inr other ↦
          (let test : same_name name n ≡ false = same_name-swap name n ∙ other in
          let more : is_among name ns ≡ true = sym (ap (λ b. b || is_among name ns) other) ∙ h in
          ap (λ b. cond b much 0 + for_each_same much name ns) test ∙ zero-add (for_each_same much name ns) ∙ for_each_same-once much name ns more parts.1)
    ]

-- The index finds the names that are not too long for it.
use Rattle.std.proofs.Common.{◌≡◌, ◌<◌, ℕ, ◌+◌, Bool, true, false, List, [], ◌∷◌, ◌++◌, length, map, Some, None, refl, sym, ap, ◌∙◌, arith}
use Rattle.std.specs.Prelude.{◌&&◌, ◌||◌, ◌==◌, if◌then◌else◌}
use Rattle.std.specs.List.{list_any}
use Rattle.std.specs.Option.{is_some}
use Rattle.std.proofs.lemmas.Bool.Decides.{nat_tests}
use Rattle.abl_base.specs.declared.limits.TheConstants.{MAX_NAME_BYTES}
use Rattle.abl_values.specs.Masks.{same_bytes}
use Rattle.abl_values.specs.Order.{folded}
use Rattle.abl_values.specs.Schema.{number_of_name, same_name}
use Rattle.abl_values.proofs.SameNames.{same_name-length}
use Rattle.binder.specs.declared.taken.ProcedureName.{ProcedureName}
use Rattle.binder.specs.Taken.{Finds}

pub equal : (m n : ℕ) → (m == n) ≡ true → m ≡ n
equal m n e = grind (arith, nat_tests)

pub both_left : (p q : Bool) → (p && q) ≡ true → p ≡ true
both_left true q e = refl
both_left false q e = absurd cc

pub both_right : (p q : Bool) → (p && q) ≡ true → q ≡ true
both_right true q e = e
both_right false q e = absurd cc

same_is : (xs ys : List ℕ) → same_bytes xs ys ≡ true → xs ≡ ys
same_is [] [] h = refl
same_is [] (y ∷ ys) h = absurd cc
same_is (x ∷ xs) [] h = absurd cc
same_is (x ∷ xs) (y ∷ ys) h =
    let e : x ≡ y = equal x y (both_left (x == y) _ h) in
    let f : xs ≡ ys = same_is xs ys (both_right (x == y) _ h) in
    cc

pub alike : (a b c : List ℕ) → same_name a b ≡ true → same_name c a ≡ same_name c b
alike a b c h = ap (same_bytes (folded c)) (same_is (folded a) (folded b) h)

number_alike : (k : ℕ) (xs : List (List ℕ)) (a b : List ℕ) → same_name a b ≡ true → number_of_name k xs a ≡ number_of_name k xs b
number_alike k [] a b h = refl
number_alike k (x ∷ xs) a b h =
    ap (λ c. if c then Some k else number_of_name (k + 1) xs a) (alike a b x h) ∙ ap (λ o. if same_name x b then Some k else o) (number_alike (k + 1) xs a b h)

any_more : (names : List (List ℕ)) (name q : List ℕ) → list_any (λ n. same_name n q) (names ++ name ∷ []) ≡ (list_any (λ n. same_name n q) names || same_name name q)
any_more [] name q = or_no (same_name name q)
  where
    or_no : (c : Bool) → (c || false) ≡ c
    or_no true = refl
    or_no false = refl
any_more (x ∷ xs) name q = go (same_name x q) (any_more xs name q)
  where
    go : (c : Bool) → list_any (λ n. same_name n q) (xs ++ name ∷ []) ≡ (list_any (λ n. same_name n q) xs || same_name name q) →
        (c || list_any (λ n. same_name n q) (xs ++ name ∷ [])) ≡ ((c || list_any (λ n. same_name n q) xs) || same_name name q)
    go true h = refl
    go false h = h

number_more : (k : ℕ) (xs : List ProcedureName) (y : ProcedureName) (q : List ℕ) →
    is_some (number_of_name k (map (λ n. n.spelling) (xs ++ y ∷ [])) q) ≡ (is_some (number_of_name k (map (λ n. n.spelling) xs) q) || same_name y.spelling q)
number_more k [] y q = go (same_name y.spelling q)
  where
    go : (c : Bool) → is_some {T = ℕ} (if c then Some k else None) ≡ c
    go true = refl
    go false = refl
number_more k (x ∷ xs) y q = go (same_name x.spelling q) (number_more (k + 1) xs y q)
  where
    go : (c : Bool) → is_some (number_of_name (k + 1) (map (λ n. n.spelling) (xs ++ y ∷ [])) q) ≡ (is_some (number_of_name (k + 1) (map (λ n. n.spelling) xs) q) || same_name y.spelling q) →
        is_some (if c then Some k else number_of_name (k + 1) (map (λ n. n.spelling) (xs ++ y ∷ [])) q) ≡ (is_some (if c then Some k else number_of_name (k + 1) (map (λ n. n.spelling) xs) q) || same_name y.spelling q)
    go true h = refl
    go false h = h

-- a name that was added
pub finds_added : (found more : List ProcedureName) (names : List (List ℕ)) (y : ProcedureName) (name : List ℕ) → more ≡ found ++ y ∷ [] → y.spelling ≡ name → Finds found names → Finds more (names ++ name ∷ [])
finds_added found more names y name is same h q lt =
    ap (λ l. is_some (number_of_name 0 (map (λ n. n.spelling) l) q)) is ∙ number_more 0 found y q ∙ ap (λ c. c || same_name y.spelling q) (h q lt)
    ∙ ap (λ n. list_any (λ n. same_name n q) names || same_name n q) same ∙ sym (any_more names name q)

-- a name that was there
pub finds_taken : (found : List ProcedureName) (names : List (List ℕ)) (name : List ℕ) → is_some (number_of_name 0 (map (λ n. n.spelling) found) name) ≡ true → Finds found names → Finds found (names ++ name ∷ [])
finds_taken found names name there h q lt = go (same_name name q) refl ∙ sym (any_more names name q)
  where
    go : (c : Bool) → same_name name q ≡ c → is_some (number_of_name 0 (map (λ n. n.spelling) found) q) ≡ (list_any (λ n. same_name n q) names || same_name name q)
    go true e =
        let here : is_some (number_of_name 0 (map (λ n. n.spelling) found) q) ≡ true = sym (ap is_some (number_alike 0 (map (λ n. n.spelling) found) name q e)) ∙ there in
        here ∙ sym (ap (λ c. list_any (λ n. same_name n q) names || c) e ∙ or_true (list_any (λ n. same_name n q) names))
      where
        or_true : (c : Bool) → (c || true) ≡ true
        or_true true = refl
        or_true false = refl
    go false e = h q lt ∙ sym (ap (λ c. list_any (λ n. same_name n q) names || c) e ∙ or_no (list_any (λ n. same_name n q) names))
      where
        or_no : (c : Bool) → (c || false) ≡ c
        or_no true = refl
        or_no false = refl

-- a name that is too long
pub finds_long : (found : List ProcedureName) (names : List (List ℕ)) (name : List ℕ) → MAX_NAME_BYTES < length name → Finds found names → Finds found (names ++ name ∷ [])
finds_long found names name long h q lt =
    let other : same_name name q ≡ false = same_name-length name q (λ e. omega arith) in
    h q lt ∙ sym (any_more names name q ∙ ap (λ c. list_any (λ n. same_name n q) names || c) other ∙ or_no (list_any (λ n. same_name n q) names))
  where
    or_no : (c : Bool) → (c || false) ≡ c
    or_no true = refl
    or_no false = refl

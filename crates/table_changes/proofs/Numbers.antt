-- Numbers of elements where one is left out.
use Rattle.std.proofs.Common.{◌≡◌, ◌≢◌, ⊎_elim, ℕ, zero, suc, ◌-◌, ◌<◌, ◌≤◌, Bool, true, false, ◌==◌, List, [], ◌∷◌, length, get_or, Option, Some, None, refl, sym, ap, ◌∙◌, arith}
use Rattle.std.specs.Prelude.{nat_lt, if◌then◌else◌}
use Rattle.std.proofs.lemmas.Bool.{cases_Bool, cases_lt, eqb-true}
use Rattle.std.proofs.lemmas.Bool.Decides.{nat_tests}
use Rattle.stored_fields.specs.declared.field.StoredField.{StoredField}
use Rattle.stored_fields.specs.Rows.{has_number}
use Rattle.table_changes.specs.Changes.{live_after, number_after, with_number, without}

pub number-before : (n k : ℕ) → k ≤ n → number_after n k ≡ k
number-before n k le = ap (λ (b : Bool). if b then k - 1 else k) (let test : nat_lt n k ≡ false = grind (arith, nat_tests) in test)

pub number-past : (n k : ℕ) → n < k → number_after n k ≡ k - 1
number-past n k lt = ap (λ (b : Bool). if b then k - 1 else k) (let test : nat_lt n k ≡ true = grind (arith, nat_tests) in test)

-- two other elements keep two numbers
number-apart : (n m k : ℕ) → m ≢ n → k ≢ n → number_after n m ≡ number_after n k → m ≡ k
number-apart n m k other_m other_k e =
    ⊎_elim
    (λ (low_m : m < n). ⊎_elim (λ (low_k : k < n). sym (number-before n m (omega (arith, low_m))) ∙ e ∙ number-before n k (omega (arith, low_k))) (λ (high_k : n ≤ k). absurd (crossed m k low_m (past k other_k high_k) (sym (number-before n m (omega (arith, low_m))) ∙ e ∙ number-past n k (past k other_k high_k)))) (cases_lt k n))
    (λ (high_m : n ≤ m). ⊎_elim (λ (low_k : k < n). absurd (crossed k m low_k (past m other_m high_m) (sym (number-before n k (omega (arith, low_k))) ∙ sym e ∙ number-past n m (past m other_m high_m)))) (λ (high_k : n ≤ k). both_past (past m other_m high_m) (past k other_k high_k) (sym (number-past n m (past m other_m high_m)) ∙ e ∙ number-past n k (past k other_k high_k))) (cases_lt k n))
    (cases_lt m n)
  where
    past : (j : ℕ) → j ≢ n → n ≤ j → n < j
    past j other le = ⊎_elim (λ (lt : n < j). lt) (λ (ge : j ≤ n). absurd (other (let same : j ≡ n = omega (arith, le, ge) in same))) (cases_lt n j)

    crossed : (i j : ℕ) → i < n → n < j → i ≡ j - 1 → ⊥
    crossed i j lt gt same = omega (arith, lt, gt, same)

    both_past : n < m → n < k → m - 1 ≡ k - 1 → m ≡ k
    both_past gm gk same = omega (arith, gm, gk, same)

eqb_false : (k n : ℕ) → (k == n) ≡ false → k ≢ n
eqb_false k n h e = grind (arith, nat_tests)

same_test : (n m k : ℕ) → m ≢ n → k ≢ n → (number_after n m == number_after n k) ≡ (m == k)
same_test n m k other_m other_k = by_tests (number_after n m == number_after n k) (m == k) refl refl
  where
    by_tests : (a b : Bool) → (number_after n m == number_after n k) ≡ a → (m == k) ≡ b → (number_after n m == number_after n k) ≡ (m == k)
    by_tests true true ea eb = ea ∙ sym eb
    by_tests false false ea eb = ea ∙ sym eb
    by_tests true false ea eb = absurd (eqb_false m k eb (number-apart n m k other_m other_k (eqb-true (number_after n m) (number_after n k) ea)))
    by_tests false true ea eb = absurd (eqb_false (number_after n m) (number_after n k) ea (ap (number_after n) (eqb-true m k eb)))

test-apart : (i j : ℕ) → i ≢ j → (i == j) ≡ false
test-apart i j h = ⊎_elim (λ (yes_is : (i == j) ≡ true). absurd (h (eqb-true i j yes_is))) (λ (no_is : (i == j) ≡ false). no_is) (cases_Bool (i == j))

-- another field has its number, and no other
pub number-kept : (n : ℕ) (live : Option ℕ) (k : ℕ) → k ≢ n → has_number (live_after n live) (number_after n k) ≡ has_number live k
number-kept n None k other = refl
number-kept n (Some m) k other = by_test (m == n) refl
  where
    by_test : (b : Bool) → (m == n) ≡ b → has_number (if m == n then None else Some (number_after n m)) (number_after n k) ≡ (m == k)
    by_test true is =
        let same : m ≡ n = eqb-true m n is in
        let differs : (m == k) ≡ false = test-apart m k (λ (e : m ≡ k). other (sym e ∙ same)) in
        ap (λ (b : Bool). has_number (if b then None else Some (number_after n m)) (number_after n k)) is ∙ sym differs
    by_test false is = ap (λ (b : Bool). has_number (if b then None else Some (number_after n m)) (number_after n k)) is ∙ same_test n m k (eqb_false m n is) other

pub with_number-kind : (live : Option ℕ) (f : StoredField) → (with_number live f).kind ≡ f.kind
with_number-kind None f = refl
with_number-kind (Some k) f = refl

pub with_number-live : (live : Option ℕ) (f : StoredField) → (with_number live f).live ≡ live
with_number-live None f = refl
with_number-live (Some k) f = refl

-- ---- lists without an element

-- the number that an element had
abbrev pub place : ℕ → ℕ → ℕ
place n k = if nat_lt k n then k else suc k

place-before : (n k : ℕ) → k < n → place n k ≡ k
place-before n k lt = ap (λ (b : Bool). if b then k else suc k) (let test : nat_lt k n ≡ true = grind (arith, nat_tests) in test)

place-past : (n k : ℕ) → n ≤ k → place n k ≡ suc k
place-past n k le = ap (λ (b : Bool). if b then k else suc k) (let test : nat_lt k n ≡ false = grind (arith, nat_tests) in test)

place-suc : (n k : ℕ) → place (suc n) (suc k) ≡ suc (place n k)
place-suc n k =
    ⊎_elim (λ (lt : k < n). place-before (suc n) (suc k) (omega (arith, lt)) ∙ ap suc (sym (place-before n k lt))) (λ (le : n ≤ k). place-past (suc n) (suc k) (omega (arith, le)) ∙ ap suc (sym (place-past n k le))) (cases_lt k n)

pub place-other : (n k : ℕ) → place n k ≢ n
place-other n k = ⊎_elim (λ (lt : k < n). λ (e : place n k ≡ n). absurd (omega (arith, lt, e, place-before n k lt))) (λ (le : n ≤ k). λ (e : place n k ≡ n). absurd (omega (arith, le, e, place-past n k le))) (cases_lt k n)

pub place-number : (n k : ℕ) → number_after n (place n k) ≡ k
place-number n k =
    ⊎_elim (λ (lt : k < n). ap (number_after n) (place-before n k lt) ∙ number-before n k (omega (arith, lt)))
    (λ (le : n ≤ k). ap (number_after n) (place-past n k le) ∙ number-past n (suc k) (omega (arith, le)) ∙ (let same : suc k - 1 ≡ k = omega arith in same)) (cases_lt k n)

-- and back
pub number-place : (n k : ℕ) → k ≢ n → place n (number_after n k) ≡ k
number-place n k other =
    ⊎_elim (λ (lt : k < n). ap (place n) (number-before n k (omega (arith, lt))) ∙ place-before n k lt)
    (λ (le : n ≤ k). past (⊎_elim (λ (gt : n < k). gt) (λ (ge : k ≤ n). absurd (other (let same : k ≡ n = omega (arith, le, ge) in same))) (cases_lt n k))) (cases_lt k n)
  where
    past : n < k → place n (number_after n k) ≡ k
    past gt = ap (place n) (number-past n k gt) ∙ place-past n (k - 1) (omega (arith, gt)) ∙ (let same : suc (k - 1) ≡ k = omega (arith, gt) in same)

pub place-within : (n k count : ℕ) → k < count → place n k < suc count
place-within n k count lt = ⊎_elim (λ (low : k < n). omega (arith, lt, place-before n k low)) (λ (le : n ≤ k). omega (arith, lt, place-past n k le)) (cases_lt k n)

pub without-at : {X : Type 0} (n : ℕ) (xs : List X) (k : ℕ) (d : X) → get_or (without n xs) k d ≡ get_or xs (place n k) d
without-at n [] k d = refl
without-at zero (x ∷ xs) k d = ap (λ (i : ℕ). get_or (x ∷ xs) i d) (sym (place-past zero k (omega arith)))
without-at (suc n) (x ∷ xs) zero d = ap (λ (i : ℕ). get_or (x ∷ xs) i d) (sym (place-before (suc n) zero (omega arith)))
without-at (suc n) (x ∷ xs) (suc k) d = without-at n xs k d ∙ ap (λ (i : ℕ). get_or (x ∷ xs) i d) (sym (place-suc n k))

pub without-length : {X : Type 0} (n : ℕ) (xs : List X) → n < length xs → suc (length (without n xs)) ≡ length xs
without-length n [] lt = absurd (omega (arith, lt))
without-length zero (x ∷ xs) lt = refl
without-length (suc n) (x ∷ xs) lt = ap suc (without-length n xs (omega (arith, lt)))

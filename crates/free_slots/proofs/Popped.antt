-- A slot leaves those that were given back, or joins them.
use Rattle.std.proofs.Common.{◌≡◌, ◌≢◌, ◌⊎◌, inl, inr, ⊎_elim, ℕ, zero, suc, ◌+◌, ◌-◌, ◌<◌, ◌≤◌, ◌==◌, cond, eqb, leb, if◌then◌else◌, Bool, true, false, List, [], ◌∷◌, Option, Some, None, IfSome, IfNone, refl, sym, ap, ◌∙◌, subst, arith}
use Rattle.std.specs.List.{All}
use Rattle.std.specs.List.Sorted.{IsPermutation}
use Rattle.std.specs.BinaryHeap.{IsHeap, IsUpperBound, PopsGreatest}
use Rattle.std.specs.Ordering.{is_lt, nat_cmp}
use Rattle.std.proofs.lemmas.Bool.{cases_eq}
use Rattle.std.proofs.lemmas.Bool.Decides.{nat_tests}
use Rattle.std.proofs.lemmas.List.Elements.{All-cons, All-head, All-tail}
use Rattle.std.proofs.lemmas.List.Sorted.{All-permutation, IsPermutation-refl, sum_by_popped, sum_by_pushed}
use Rattle.free_slots.specs.Free.{free_in, times, without}

abbrev pub one : ℕ → ℕ → ℕ
one x y = if y == x then 1 else 0

pub one_same : (x y : ℕ) → y ≡ x → one x y ≡ 1
one_same x y e = let same : eqb y x ≡ true = grind (arith, nat_tests, e) in ap (λ (b : Bool). cond b 1 0) same

pub one_other : (x y : ℕ) → y ≢ x → one x y ≡ 0
one_other x y ne = let apart : eqb y x ≡ false = grind (arith, nat_tests, ne) in ap (λ (b : Bool). cond b 1 0) apart

pub one_small : (x y : ℕ) → one x y ≤ 1
one_small x y = elim (cases_eq y x) [
  | inl e ↦ let is = one_same x y e in omega (arith, is)
  | inr ne ↦ let is = one_other x y ne in omega (arith, is)
]

pub popped : (x : ℕ) (xs ys : List ℕ) → IsPermutation xs (x ∷ ys) → (z : ℕ) → times z ys + one z x ≡ times z xs
popped x xs ys p z = sum_by_popped (one z) x xs ys p

pub pushed : (x : ℕ) (xs ys : List ℕ) → IsPermutation (x ∷ xs) ys → (z : ℕ) → times z ys ≡ one z x + times z xs
pushed x xs ys p z = sum_by_pushed (one z) x xs ys p

-- ---- what is left after a pop

pub all_left : (P : ℕ → Type 0) (r : Option ℕ) (xs ys : List ℕ) (n m : ℕ) → All P xs → IfSome r (λ x. IsPermutation xs (x ∷ ys)) → IfNone r ((ys ≡ xs) × (n ≡ m)) → All P ys
all_left P (Some x) xs ys n m all p same = All-tail P x ys (All-permutation P xs (x ∷ ys) p all)
all_left P None xs ys n m all p same = subst (All P) (sym same.0) all

pub once_left : (r : Option ℕ) (xs ys : List ℕ) (n m : ℕ) → ((z : ℕ) → times z xs ≤ 1) → IfSome r (λ x. IsPermutation xs (x ∷ ys)) → IfNone r ((ys ≡ xs) × (n ≡ m)) → (z : ℕ) → times z ys ≤ 1
once_left (Some x) xs ys n m once p same z = let is = popped x xs ys p z in let few = once z in omega (arith, is, few)
once_left None xs ys n m once p same z = subst (λ (l : List ℕ). times z l ≤ 1) (sym same.0) (once z)

pub heap_left : (r : Option ℕ) (xs ys : List ℕ) (n m : ℕ) → IsHeap nat_cmp xs → IfSome r (λ x. PopsGreatest nat_cmp xs x ys) → IfNone r ((ys ≡ xs) × (n ≡ m)) → IsHeap nat_cmp ys
heap_left (Some x) xs ys n m heap p same = (p heap).0
heap_left None xs ys n m heap p same = subst (IsHeap nat_cmp) (sym same.0) heap

no_less : (x y : ℕ) → is_lt (nat_cmp x y) ≡ false → y ≤ x
no_less x y e = grind (arith, nat_tests)

-- above the greatest there is none
pub none_above : (x z : ℕ) (xs : List ℕ) → IsUpperBound nat_cmp x xs → x < z → times z xs ≡ 0
none_above x z [] bound lt = refl
none_above x z (y ∷ ys) bound lt =
    let le = no_less x y bound.0 in
    let apart : y ≢ z = λ e. absurd (omega (arith, le, e, lt)) in
    let here = one_other z y apart in
    let rest = none_above x z ys bound.1 lt in
    let step = pushed y ys (y ∷ ys) (IsPermutation-refl (y ∷ ys)) z in
    omega (arith, step, here, rest)

-- ---- which slots are free

abbrev bit : Bool → ℕ
bit b = cond b 1 0

pub far : (back : List ℕ) (end k : ℕ) → 1048576 ≤ k → free_in back end k ≡ 0
far back end k le = let past : leb 1048576 k ≡ true = grind (arith, nat_tests, le) in ap (λ (b : Bool). cond b 0 (times (1048575 - k) back + bit (leb end k))) past

near : (back : List ℕ) (end k : ℕ) → k < 1048576 → free_in back end k ≡ times (1048575 - k) back + bit (leb end k)
near back end k lt = let within : leb 1048576 k ≡ false = grind (arith, nat_tests, lt) in ap (λ (b : Bool). cond b 0 (times (1048575 - k) back + bit (leb end k))) within

pub below_end : (back : List ℕ) (end k : ℕ) → k < 1048576 → k < end → free_in back end k ≡ times (1048575 - k) back
below_end back end k lt le =
    let off : leb end k ≡ false = grind (arith, nat_tests, le) in
    let tail : bit (leb end k) ≡ 0 = ap bit off in
    let is = near back end k lt in
    omega (arith, is, tail)

pub past_end : (back : List ℕ) (end k : ℕ) → k < 1048576 → end ≤ k → free_in back end k ≡ times (1048575 - k) back + 1
past_end back end k lt le =
    let on : leb end k ≡ true = grind (arith, nat_tests, le) in
    let tail : bit (leb end k) ≡ 1 = ap bit on in
    let is = near back end k lt in
    omega (arith, is, tail)

splits : (a b : ℕ) → (a ≤ b) ⊎ (b < a)
splits zero b = inl (omega arith)
splits (suc a) zero = inr (omega arith)
splits (suc a) (suc b) = ⊎_elim (λ h. inl (omega (arith, h))) (λ h. inr (omega (arith, h))) (splits a b)

module _ (xs ys : List ℕ) (end x : ℕ) where
  -- where one slot comes or goes, the others stay
  pub others : (k : ℕ) → k ≢ 1048575 - x → x ≤ 1048575 → (k < 1048576 → times (1048575 - k) ys ≡ times (1048575 - k) xs) → free_in ys end k ≡ free_in xs end k
  others k ne small same = elim (splits 1048576 k) [
    | inl le ↦ far ys end k le ∙ sym (far xs end k le)
    | inr lt ↦ near ys end k lt ∙ (ap (λ (n : ℕ). n + bit (leb end k)) (same lt) ∙ sym (near xs end k lt))
  ]

-- the lowest slot is drawn: it has the greatest distance
module _ (xs ys : List ℕ) (end x : ℕ) (p : IsPermutation xs (x ∷ ys)) (inside : All (λ y. (1048575 < end + y) × (y ≤ 1040383)) xs) (once : (z : ℕ) → times z xs ≤ 1) where
  here_in : (1048575 < end + x) × (x ≤ 1040383)
  here_in = All-head (λ y. (1048575 < end + y) × (y ≤ 1040383)) x ys (All-permutation (λ y. (1048575 < end + y) × (y ≤ 1040383)) xs (x ∷ ys) p inside)

  pub drawn_lowest : IsUpperBound nat_cmp x xs → (k : ℕ) → k < 1048575 - x → free_in xs end k ≡ 0
  drawn_lowest bound k lt =
      let h = here_in in
      let a = h.0 in
      let b = h.1 in
      below_end xs end k (omega (arith, lt)) (omega (arith, lt, a, b)) ∙ none_above x (1048575 - k) xs bound (omega (arith, lt))

  pub drawn_left : (k : ℕ) → free_in ys end k ≡ without (1048575 - x) (free_in xs end) k
  drawn_left k = elim (cases_eq k (1048575 - x)) [
    | inl e ↦
        let h = here_in in
        let a = h.0 in
        let b = h.1 in
        let lt : k < 1048576 = omega (arith, e) in
        let low : k < end = omega (arith, e, a, b) in
        let z_is : 1048575 - k ≡ x = omega (arith, e, b) in
        let took = popped x xs ys p (1048575 - k) in
        let mine = one_same (1048575 - k) x (sym z_is) in
        let few = once (1048575 - k) in
        let none : times (1048575 - k) ys ≡ 0 = omega (arith, took, mine, few) in
        let same : eqb k (1048575 - x) ≡ true = grind (arith, nat_tests, e) in
        below_end ys end k lt low ∙ (none ∙ sym (ap (λ (b : Bool). cond b 0 (free_in xs end k)) same))
    | inr ne ↦
        let h = here_in in
        let b = h.1 in
        let apart : eqb k (1048575 - x) ≡ false = grind (arith, nat_tests, ne) in
        others xs ys end x k ne (omega (arith, b)) (λ lt.
        let took = popped x xs ys p (1048575 - k) in
        let other = one_other (1048575 - k) x (λ e. ne (omega (arith, e, lt, b))) in
        omega (arith, took, other))
        ∙ sym (ap (λ (b : Bool). cond b 0 (free_in xs end k)) apart)
  ]

-- a slot is given back
module _ (xs ys : List ℕ) (end slot : ℕ) (p : IsPermutation ((1048575 - slot) ∷ xs) ys) (low : 8192 ≤ slot) (high : slot < 1048576) (taken : free_in xs end slot ≡ 0) where
  below : slot < end
  below = ⊎_elim (λ (le : end ≤ slot). let is = past_end xs end slot high le in absurd (omega (arith, is, taken))) (λ lt. lt) (splits end slot)

  none_yet : times (1048575 - slot) xs ≡ 0
  none_yet = sym (below_end xs end slot high below) ∙ taken

  pub given_once : ((z : ℕ) → times z xs ≤ 1) → (z : ℕ) → times z ys ≤ 1
  given_once once z = elim (cases_eq z (1048575 - slot)) [
    | inl e ↦
        let more = pushed (1048575 - slot) xs ys p z in
        let none : times z xs ≡ 0 = ap (λ (n : ℕ). times n xs) e ∙ none_yet in
        let small = one_small z (1048575 - slot) in
        omega (arith, more, none, small)
    | inr ne ↦
        let more = pushed (1048575 - slot) xs ys p z in
        let other = one_other z (1048575 - slot) (λ e. ne (sym e)) in
        let few = once z in
        omega (arith, more, other, few)
  ]

  pub given_inside : All (λ y. (1048575 < end + y) × (y ≤ 1040383)) xs → All (λ y. (1048575 < end + y) × (y ≤ 1040383)) ys
  given_inside all =
      let lt = below in
      let one_in : (1048575 < end + (1048575 - slot)) × (1048575 - slot ≤ 1040383) = (omega (arith, lt, high), omega (arith, low, high)) in
      All-permutation (λ y. (1048575 < end + y) × (y ≤ 1040383)) ((1048575 - slot) ∷ xs) ys p (All-cons (λ y. (1048575 < end + y) × (y ≤ 1040383)) (1048575 - slot) xs one_in all)

  pub given_free : (k : ℕ) → free_in ys end k ≡ cond (eqb k slot) 1 (free_in xs end k)
  given_free k = elim (cases_eq k slot) [
    | inl e ↦
        let lt : k < 1048576 = omega (arith, e, high) in
        let le : k < end = let b = below in omega (arith, e, b) in
        let more = pushed (1048575 - slot) xs ys p (1048575 - k) in
        let mine = one_same (1048575 - k) (1048575 - slot) (omega (arith, e)) in
        let none : times (1048575 - k) xs ≡ 0 = ap (λ (n : ℕ). times (1048575 - n) xs) e ∙ none_yet in
        let now : times (1048575 - k) ys ≡ 1 = omega (arith, more, mine, none) in
        let same : eqb k slot ≡ true = grind (arith, nat_tests, e) in
        below_end ys end k lt le ∙ (now ∙ sym (ap (λ (b : Bool). cond b 1 (free_in xs end k)) same))
    | inr ne ↦
        let apart : eqb k slot ≡ false = grind (arith, nat_tests, ne) in
        others xs ys end (1048575 - slot) k (λ e. ne (omega (arith, e, high))) (omega arith) (λ lt.
        let more = pushed (1048575 - slot) xs ys p (1048575 - k) in
        let other = one_other (1048575 - k) (1048575 - slot) (λ e. ne (omega (arith, e, lt, high))) in
        omega (arith, more, other))
        ∙ sym (ap (λ (b : Bool). cond b 1 (free_in xs end k)) apart)
  ]

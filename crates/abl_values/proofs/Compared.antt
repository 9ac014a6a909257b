-- Two texts compared from a place on.
use Rattle.std.proofs.Common.{◌≡◌, ℕ, ◌+◌, ◌<◌, ◌≤◌, min, ⊎_elim, List, [], ◌∷◌, length, get_or, drop, refl, ap, ◌∙◌, arith, add-one, length-drop}
use Rattle.std.proofs.lemmas.Bool.{cases_lt}
use Rattle.std.proofs.Math.Seq.{drop-cons}
use Rattle.std.proofs.lemmas.List.{drop_all}
use Rattle.std.proofs.lemmas.Bool.Decides.{nat_tests}
use Rattle.std.specs.Cmp.Lexicographic.{slice_cmp}
use Rattle.std.specs.Ordering.{nat_cmp, ordering_then}
use Rattle.std.specs.declared.cmp.Ordering.{Ordering}
use Rattle.abl_values.specs.Order.{folded, folded_byte}

-- the order of two texts by their folded bytes
abbrev pub folded_cmp : List ℕ → List ℕ → Ordering
folded_cmp s t = slice_cmp nat_cmp (folded s) (folded t)

-- one place further
pub folded_cmp-drop : (s t : List ℕ) (i : ℕ) → i < length s → i < length t →
    folded_cmp (drop i s) (drop i t) ≡ ordering_then (nat_cmp (folded_byte (get_or s i 0)) (folded_byte (get_or t i 0))) (folded_cmp (drop (i + 1) s) (drop (i + 1) t))
folded_cmp-drop s t i hs ht =
    rw (drop-cons s i 0 hs, drop-cons t i 0 ht, add-one) refl

empty_left : (ys : List ℕ) (n : ℕ) → folded_cmp [] ys ≡ nat_cmp n (n + length ys)
empty_left [] n = grind (arith, nat_tests)
empty_left (y ∷ ys) n = grind (arith, nat_tests)

empty_right : (xs : List ℕ) (n : ℕ) → folded_cmp xs [] ≡ nat_cmp (n + length xs) n
empty_right [] n = grind (arith, nat_tests)
empty_right (x ∷ xs) n = grind (arith, nat_tests)

-- where one text has ended
folded_cmp_left : (s t : List ℕ) (i : ℕ) → i ≡ length s → i ≤ length t → folded_cmp (drop i s) (drop i t) ≡ nat_cmp (length s) (length t)
folded_cmp_left s t i hs ht =
    let all = length-drop i t in
    let sum : i + length (drop i t) ≡ length t = omega (arith, all) in
    ap (λ xs. folded_cmp xs (drop i t)) (drop_all i s (omega arith)) ∙ empty_left (drop i t) i
    ∙ ap (λ (n : ℕ). nat_cmp i n) sum ∙ ap (λ (n : ℕ). nat_cmp n (length t)) hs

folded_cmp_right : (s t : List ℕ) (i : ℕ) → i ≡ length t → i ≤ length s → folded_cmp (drop i s) (drop i t) ≡ nat_cmp (length s) (length t)
folded_cmp_right s t i ht hs =
    let all = length-drop i s in
    let sum : i + length (drop i s) ≡ length s = omega (arith, all) in
    ap (λ xs. folded_cmp (drop i s) xs) (drop_all i t (omega arith)) ∙ empty_right (drop i s) i
    ∙ ap (λ (n : ℕ). nat_cmp n i) sum ∙ ap (λ (n : ℕ). nat_cmp (length s) n) ht

pub folded_cmp_end : (s t : List ℕ) (i : ℕ) → i ≡ min (length s) (length t) → folded_cmp (drop i s) (drop i t) ≡ nat_cmp (length s) (length t)
folded_cmp_end s t i is =
    ⊎_elim (λ h. folded_cmp_left s t i (omega arith) (omega arith)) (λ h. folded_cmp_right s t i (omega arith) (omega arith))
    (cases_lt (length s) (length t))

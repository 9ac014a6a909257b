-- Digits under the signs of a mask, from the right.
use Rattle.std.proofs.Common.{◌≡◌, ◌≢◌, ℕ, ◌+◌, ◌-◌, ◌/◌, ◌%◌, ◌<◌, ◌≤◌, List, [], ◌∷◌, ◌++◌, length, take, reverse, get_or, refl, sym, ap, ◌∙◌, arith}
use Rattle.std.specs.Prelude.{◌==◌}
use Rattle.std.proofs.Math.Seq.{take-length}
use Rattle.std.proofs.lemmas.List.{length-reverse, reverse-append, take_more}
use Rattle.std.proofs.lemmas.Grind.{reverse_onto}
use Rattle.std.proofs.lemmas.Bool.{cond-false, ne_eqb}
use Rattle.abl_values.specs.Texts.{after_point, last_digits}
use Rattle.value_masks.specs.Put.{laid}
use Rattle.abl_values.proofs.Digits.{last_digits_more}
use Rattle.value_masks.proofs.Widths.{length_last_digits}

pub laid_nothing : (ds : List ℕ) → laid [] ds ≡ []
laid_nothing [] = refl
laid_nothing (d ∷ ds) = refl

laid_comma : (rest ds : List ℕ) → 0 < length ds → reverse (laid (44 ∷ rest) ds) ≡ reverse (laid rest ds) ++ 44 ∷ []
laid_comma rest [] h = absurd (omega arith)
laid_comma rest (d ∷ ds) h = reverse_onto (laid rest (d ∷ ds)) 44 []

laid_digit : (sign d : ℕ) (rest ds : List ℕ) → sign ≢ 44 → reverse (laid (sign ∷ rest) (d ∷ ds)) ≡ reverse (laid rest ds) ++ d ∷ []
laid_digit sign d rest ds h =
    ap reverse (cond-false (sign == 44) (44 ∷ laid rest (d ∷ ds)) (d ∷ laid rest ds) (ne_eqb sign 44 h)) ∙ reverse_onto (laid rest ds) d []

-- the list is its front and its last element
front_and_last : (xs : List ℕ) → 0 < length xs → xs ≡ take (length xs - 1) xs ++ get_or xs (length xs - 1) 0 ∷ []
front_and_last xs h =
    let whole : length xs ≡ length xs - 1 + 1 = omega arith in
    sym (take-length xs) ∙ ap (λ (i : ℕ). take i xs) whole ∙ take_more xs (length xs - 1) 0 (omega arith)

reverse_last : (xs : List ℕ) → 0 < length xs → reverse xs ≡ get_or xs (length xs - 1) 0 ∷ reverse (take (length xs - 1) xs)
reverse_last xs h =
    ap reverse (front_and_last xs h) ∙ reverse-append (take (length xs - 1) xs) (get_or xs (length xs - 1) 0 ∷ [])

reverse_last_digits : (k n : ℕ) → 0 < k → reverse (last_digits k n) ≡ (48 + n % 10) ∷ reverse (last_digits (k - 1) (n / 10))
reverse_last_digits k n h =
    ap reverse (last_digits_more k n h) ∙ reverse-append (last_digits (k - 1) (n / 10)) ((48 + n % 10) ∷ [])

-- the digits of a number under the part of a mask before the point
abbrev pub laid_number : List ℕ → ℕ → ℕ → List ℕ
laid_number part k n = reverse (laid (reverse part) (reverse (last_digits k n)))

pub laid_number_none : (part : List ℕ) (k n : ℕ) → length part < 1 → laid_number part k n ≡ []
laid_number_none [] k n h = ap reverse (laid_nothing (reverse (last_digits k n)))
laid_number_none (m ∷ part) k n h = absurd (omega arith)

pub laid_number_comma : (part : List ℕ) (k n : ℕ) → 1 ≤ length part → get_or part (length part - 1) 0 ≡ 44 → 0 < k → laid_number part k n ≡ laid_number (take (length part - 1) part) k n ++ 44 ∷ []
laid_number_comma part k n h comma some =
    let ds : List ℕ = reverse (last_digits k n) in
    let front : List ℕ = reverse (take (length part - 1) part) in
    let many : 0 < length (reverse (last_digits k n)) = (let a = length-reverse (last_digits k n) in let b = length_last_digits k n in omega arith) in
    ap (λ (m : List ℕ). reverse (laid m ds)) (reverse_last part h ∙ ap (λ (s : ℕ). s ∷ front) comma) ∙ laid_comma front ds many

pub laid_number_digit : (part : List ℕ) (k n : ℕ) → 1 ≤ length part → get_or part (length part - 1) 0 ≢ 44 → 0 < k → laid_number part k n ≡ laid_number (take (length part - 1) part) (k - 1) (n / 10) ++ (48 + n % 10) ∷ []
laid_number_digit part k n h other some =
    let front : List ℕ = reverse (take (length part - 1) part) in
    let ds : List ℕ = reverse (last_digits (k - 1) (n / 10)) in
    ap (λ (m : List ℕ). reverse (laid m (reverse (last_digits k n)))) (reverse_last part h)
    ∙ ap (λ (es : List ℕ). reverse (laid (get_or part (length part - 1) 0 ∷ front) es)) (reverse_last_digits k n some)
    ∙ laid_digit (get_or part (length part - 1) 0) (48 + n % 10) front ds other

pub after_point_some : (ds : List ℕ) → 0 < length ds → after_point ds ≡ 46 ∷ ds
after_point_some [] h = absurd (omega arith)
after_point_some (d ∷ ds) h = refl

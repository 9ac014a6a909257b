-- How long what is written under a mask is.
use Rattle.std.proofs.Common.{◌≡◌, ℕ, zero, suc, ◌+◌, ◌-◌, ◌/◌, ◌%◌, ◌^◌, ◌≤◌, Bool, true, false, not, ◌&&◌, ◌||◌, List, [], ◌∷◌, ◌++◌, length, take, drop, reverse, inl, inr, refl, sym, ap, subst, ◌∙◌, arith}
use Rattle.std.specs.Prelude.{nat_le, nat_lt, ◌==◌, ℤ, unsigned_abs, if◌then◌else◌}
use Rattle.std.specs.Int.{is_negative}
use Rattle.std.specs.List.{prefix_len}
use Rattle.std.proofs.lemmas.List.{length-take, length-drop, length-append, length-reverse, length-replicate}
use Rattle.std.proofs.lemmas.List.Sums.{prefix_len-le-length}
use Rattle.std.proofs.lemmas.Bool.{cond_both, cases_eq, ne_eqb, and_parts}
use Rattle.abl_values.specs.Digits.{from_first_not, has_minus}
use Rattle.abl_values.specs.Masks.{without_minus}
use Rattle.abl_values.specs.Texts.{after_point, last_digits}
use Rattle.value_masks.specs.Put.{decimals_of, digit_count, has_room, is_before_point, laid, magnitude_under, number_under, on_the_left, on_the_right, question_marks, room_of, units_of, units_under, whole_part, whole_under}

pub length_on_the_left : (width : ℕ) (text : List ℕ) → length (on_the_left width text) ≡ width
length_on_the_left width text = simp (length-append, length-take, length-replicate) (omega arith)

pub length_on_the_right : (width : ℕ) (text : List ℕ) → length text ≤ width → length (on_the_right width text) ≡ width
length_on_the_right width text h = simp (length-append, length-replicate) (omega arith)

pub length_last_digits : (k n : ℕ) → length (last_digits k n) ≡ k
length_last_digits zero n = refl
length_last_digits (suc k) n =
    let front = length_last_digits k (n / 10) in
    length-append (last_digits k (n / 10)) ((48 + n % 10) ∷ []) ∙ omega arith

length_laid : (mask ds : List ℕ) → length (laid mask ds) ≤ length mask
length_laid mask [] = omega arith
length_laid [] (d ∷ ds) = omega arith
length_laid (m ∷ mask) (d ∷ ds) =
    let comma = length_laid mask (d ∷ ds) in
    let digit = length_laid mask ds in
    cond_both (m == 44) (44 ∷ laid mask (d ∷ ds)) (d ∷ laid mask ds) (λ (xs : List ℕ). length xs ≤ suc (length mask)) (λ _. omega arith) (λ _. omega arith)

length_reversed : (part ds : List ℕ) → length (reverse (laid (reverse part) ds)) ≤ length part
length_reversed part ds =
    let back = length-reverse (laid (reverse part) ds) in
    let front = length_laid (reverse part) ds in
    let whole = length-reverse part in
    omega arith

length_whole_under : (part : List ℕ) (n : ℕ) → length (whole_under part n) ≤ length part
length_whole_under part n = length_reversed part _

-- no bare point
length_after_point : (ds : List ℕ) → length (after_point ds) ≤ length ds + 1
length_after_point [] = omega arith
length_after_point (d ∷ ds) = omega arith

length_decimals : (w n : ℕ) → length (after_point (last_digits (w - 1) n)) ≤ w
length_decimals zero n = omega arith
length_decimals (suc w) n =
    let back : suc w - 1 ≡ w = omega arith in
    let point = length_after_point (last_digits (suc w - 1) n) in
    let digits = length_last_digits (suc w - 1) n in
    omega arith

-- the parts before and after the point
length_parts : (p : ℕ → Bool) (xs : List ℕ) → length (take (prefix_len p xs) xs) + length (from_first_not p xs) ≡ length xs
length_parts p xs = let h = prefix_len-le-length p xs in simp (length-take, length-drop) (omega arith)

-- how many bytes the mask's `-` takes
abbrev minus_len : List ℕ → ℕ
minus_len mask = if has_minus mask then 1 else 0

drop_one_more : (b : ℕ) (bs : List ℕ) (k : ℕ) → drop (1 + k) (b ∷ bs) ≡ drop k bs
drop_one_more b bs k = let more : 1 + k ≡ suc k = omega arith in ap (λ (i : ℕ). drop i (b ∷ bs)) more

-- what stands before the point without the `-`, and what stands from the point on
abbrev parts_len : List ℕ → ℕ
parts_len mask =
    length (take (prefix_len is_before_point (without_minus mask)) (without_minus mask)) + length (from_first_not is_before_point mask)

-- a `-` stands before the point
length_signed : (bs : List ℕ) → parts_len (45 ∷ bs) + minus_len (45 ∷ bs) ≡ suc (length bs)
length_signed bs =
    let parts = length_parts is_before_point bs in
    let behind = ap length (drop_one_more 45 bs (prefix_len is_before_point bs)) in
    omega arith

length_unsigned : (mask : List ℕ) → parts_len mask + minus_len mask ≡ length mask
length_unsigned [] = refl
length_unsigned (b ∷ bs) = elim (cases_eq b 45) [
  | inl e ↦ subst (λ (x : ℕ). parts_len (x ∷ bs) + minus_len (x ∷ bs) ≡ suc (length bs)) (sym e) (length_signed bs)
  | inr n ↦ let parts = length_parts is_before_point (b ∷ bs) in let other = ne_eqb b 45 n in rw other (omega arith)
]

length_magnitude : (mask : List ℕ) (u : ℕ) → length (magnitude_under mask u) + minus_len mask ≤ length mask
length_magnitude mask u =
    let whole = length_whole_under (whole_part mask) (u / 10 ^ decimals_of mask) in
    let behind = length_decimals (length (from_first_not is_before_point mask)) u in
    let parts = length_unsigned mask in
    let both = length-append (whole_under (whole_part mask) (u / 10 ^ decimals_of mask)) (after_point (last_digits (decimals_of mask) u)) in
    omega arith

-- the sign that is written, of a number that is negative or not and rounded to zero or not
abbrev sign : Bool → Bool → List ℕ
sign positive negative = if positive then (if negative then 45 ∷ [] else []) else []

length_sign : (minus positive negative : Bool) → (minus || not (negative && positive)) ≡ true → length (sign positive negative) ≤ (if minus then 1 else 0)
length_sign true true true h = omega arith
length_sign true true false h = omega arith
length_sign true false negative h = omega arith
length_sign false true true h = cc
length_sign false true false h = omega arith
length_sign false false negative h = omega arith

length_units_under : (mask : List ℕ) (n : ℤ) (u : ℕ) → length (units_under mask n u) ≡ length mask
length_units_under mask n u =
    let written : List ℕ = sign (nat_lt 0 u) (is_negative n) ++ magnitude_under mask u in
    cond_both (has_room mask n u) (on_the_right (length mask) written) (question_marks (length mask)) (λ (xs : List ℕ). length xs ≡ length mask)
    (λ room.
    let free = (and_parts (nat_le (digit_count (u / 10 ^ decimals_of mask)) (room_of (whole_part mask))) (has_minus mask || not (is_negative n && nat_lt 0 u)) room).1 in
    let before = length_sign (has_minus mask) (nat_lt 0 u) (is_negative n) free in
    let behind = length_magnitude mask u in
    let both = length-append (sign (nat_lt 0 u) (is_negative n)) (magnitude_under mask u) in
    length_on_the_right (length mask) written (omega arith))
    (λ _. length-replicate (length mask) 63)

pub length_number_under : (mask : List ℕ) (n : ℤ) → length (number_under mask n) ≡ length mask
length_number_under mask n = length_units_under mask n (units_of (decimals_of mask) (unsigned_abs n))

-- A mask for words is none for texts, and one for numbers is none for texts or words, so each has one width.
use Rattle.std.proofs.Common.{◌≡◌, ℕ, ◌≤◌, Bool, true, false, ◌&&◌, List, [], ◌∷◌, length, inl, inr, ◌⊎◌, refl, sym, ap, subst, ◌∙◌, arith}
use Rattle.std.specs.Prelude.{◌==◌, codes, nat_le}
use Rattle.std.specs.List.{list_all, list_any}
use Rattle.std.proofs.lemmas.Bool.{cases_Bool, cond-true, cond-false, and_parts, and_from, or_cases, both_ways, eqb-true, false_from_ne_true}
use Rattle.std.proofs.lemmas.Bool.Decides.{nat_tests}
use Rattle.abl_values.specs.Masks.{after_run, is_date_mask, is_digit, is_digit_sign, is_fixed, is_floating, is_fraction, is_mask_word_byte, is_nine, is_number_mask, is_second_word, is_text_mask, is_width, is_word_mask, is_x, same_bytes, without_minus}
use Rattle.value_masks.specs.Put.{text_width, width_of, word_width}

-- ---- a word mask has a `/`, and the others for texts and numbers have none

abbrev are_letters : List ℕ → Bool
are_letters xs = list_all is_mask_word_byte xs

after_letters : (xs : List ℕ) → are_letters xs ≡ true → after_run is_mask_word_byte xs ≡ []
after_letters [] h = refl
after_letters (b ∷ bs) h =
    let parts = and_parts (is_mask_word_byte b) (are_letters bs) h in
    cond-true (is_mask_word_byte b) _ _ parts.0 ∙ after_letters bs parts.1

and_no : (b : Bool) → (b && false) ≡ false
and_no true = refl
and_no false = refl

no_word : (xs : List ℕ) → are_letters xs ≡ true → is_word_mask xs ≡ false
no_word [] h = refl
no_word (b ∷ bs) h =
    let parts = and_parts (is_mask_word_byte b) (are_letters bs) h in
    ap (λ (ys : List ℕ). is_mask_word_byte b && is_second_word ys) (after_letters bs parts.1) ∙ and_no (is_mask_word_byte b)

-- ---- texts

x_is_letter : (b : ℕ) → is_x b ≡ true → is_mask_word_byte b ≡ true
x_is_letter b h = grind (arith, nat_tests)

digit_is_letter : (b : ℕ) → is_digit b ≡ true → is_mask_word_byte b ≡ true
digit_is_letter b h = grind (arith, nat_tests)

end_is_letter : (b : ℕ) → (b == 41) ≡ true → is_mask_word_byte b ≡ true
end_is_letter b h = grind (arith, nat_tests)

nine_is_letter : (b : ℕ) → is_nine b ≡ true → is_mask_word_byte b ≡ true
nine_is_letter b h = grind (arith, nat_tests)

floating_is_letter : (b : ℕ) → is_floating b ≡ true → is_mask_word_byte b ≡ true
floating_is_letter b h = grind (arith, nat_tests)

fixed_is_letter : (b : ℕ) → is_fixed b ≡ true → is_mask_word_byte b ≡ true
fixed_is_letter b h = grind (arith, nat_tests)

all_letters : (p : ℕ → Bool) → ((b : ℕ) → p b ≡ true → is_mask_word_byte b ≡ true) → (xs : List ℕ) → list_all p xs ≡ true → are_letters xs ≡ true
all_letters p each [] h = refl
all_letters p each (b ∷ bs) h =
    let parts = and_parts (p b) (list_all p bs) h in
    and_from _ _ (each b parts.0) (all_letters p each bs parts.1)

two_letters : (b c : ℕ) → is_mask_word_byte b ≡ true → is_mask_word_byte c ≡ true → are_letters (b ∷ c ∷ []) ≡ true
two_letters b c p q = and_from _ _ p (and_from _ _ q refl)

width_letters : (xs : List ℕ) → is_width xs ≡ true → are_letters xs ≡ true
width_letters [] h = cc
width_letters (a ∷ []) h = cc
width_letters (a ∷ b ∷ []) h =
    let p = and_parts _ _ h in
    let d = and_parts _ _ p.0 in
    two_letters a b (digit_is_letter a d.0) (end_is_letter b p.1)
width_letters (a ∷ b ∷ c ∷ []) h =
    let p = and_parts _ _ h in
    let d = and_parts _ _ p.0 in
    let e = and_parts _ _ d.1 in
    and_from _ _ (digit_is_letter a d.0) (two_letters b c (digit_is_letter b e.0) (end_is_letter c p.1))
width_letters (a ∷ b ∷ c ∷ d ∷ []) h =
    let p = and_parts _ _ h in
    let q = and_parts _ _ p.0 in
    let r = and_parts _ _ q.0 in
    let s = and_parts _ _ q.1 in
    and_from _ _ (digit_is_letter a r.0)
    (and_from _ _ (digit_is_letter b r.1) (two_letters c d (digit_is_letter c s.0) (end_is_letter d p.1)))
width_letters (a ∷ b ∷ c ∷ d ∷ e ∷ es) h = cc

text_letters : (mask : List ℕ) → is_text_mask mask ≡ true → are_letters mask ≡ true
text_letters [] h = cc
text_letters (b ∷ []) h = and_from _ _ (x_is_letter b h) refl
text_letters (b ∷ c ∷ cs) h =
    let parts = and_parts (is_x b) _ h in
    elim (cases_Bool (c == 40)) [
      | inl e ↦ and_from _ _ (x_is_letter b parts.0) (and_from _ _ (let h : is_mask_word_byte c ≡ true = grind (arith, nat_tests) in h) (width_letters cs (sym (cond-true (c == 40) _ _ e) ∙ parts.1)))
      | inr e ↦ and_from _ _ (x_is_letter b parts.0) (all_letters is_x x_is_letter (c ∷ cs) (sym (cond-false (c == 40) _ _ e) ∙ parts.1))
    ]

pub word_is_no_text : (mask : List ℕ) → is_word_mask mask ≡ true → is_text_mask mask ≡ false
word_is_no_text mask h =
    false_from_ne_true (is_text_mask mask) (λ t. both_ways (is_word_mask mask) (no_word mask (text_letters mask t)) h)

-- ---- numbers

run_letters : (p : ℕ → Bool) → ((b : ℕ) → p b ≡ true → is_mask_word_byte b ≡ true) → (xs : List ℕ) → are_letters (after_run p xs) ≡ true → are_letters xs ≡ true
run_letters p each [] h = refl
run_letters p each (b ∷ bs) h =
    elim (cases_Bool (p b)) [
      | inl e ↦ and_from _ _ (each b e) (run_letters p each bs (sym (ap are_letters (cond-true (p b) (after_run p bs) (b ∷ bs) e)) ∙ h))
      | inr e ↦ sym (ap are_letters (cond-false (p b) (after_run p bs) (b ∷ bs) e)) ∙ h
    ]

minus_letters : (xs : List ℕ) → are_letters (without_minus xs) ≡ true → are_letters xs ≡ true
minus_letters [] h = refl
minus_letters (b ∷ bs) h =
    elim (cases_Bool (b == 45)) [
      | inl e ↦ and_from _ _ (let l : is_mask_word_byte b ≡ true = grind (arith, nat_tests) in l) (sym (ap are_letters (cond-true (b == 45) bs (b ∷ bs) e)) ∙ h)
      | inr e ↦ sym (ap are_letters (cond-false (b == 45) bs (b ∷ bs) e)) ∙ h
    ]

point_is_letter : (b : ℕ) → (b == 46) ≡ true → is_mask_word_byte b ≡ true
point_is_letter b h = grind (arith, nat_tests)

fraction_letters : (decimals : Bool) (xs : List ℕ) → is_fraction decimals xs ≡ true → are_letters xs ≡ true
fraction_letters decimals [] h = refl
fraction_letters decimals (b ∷ []) h = cc
fraction_letters decimals (b ∷ c ∷ cs) h =
    let parts = and_parts (decimals) _ h in
    let nines = and_parts (b == 46) _ parts.1 in
    and_from _ _ (point_is_letter b nines.0) (all_letters is_nine nine_is_letter (c ∷ cs) nines.1)

-- what follows the signs of whole digits
abbrev behind_whole : List ℕ → List ℕ
behind_whole mask = after_run is_fixed (after_run is_floating (without_minus mask))

number_fraction : (decimals : Bool) (mask : List ℕ) → is_number_mask decimals mask ≡ true → is_fraction decimals (behind_whole mask) ≡ true
number_fraction decimals mask h =
    let parts = and_parts (nat_le (length mask) 40) (list_any is_digit_sign mask && is_fraction decimals (behind_whole mask)) h in
    (and_parts (list_any is_digit_sign mask) (is_fraction decimals (behind_whole mask)) parts.1).1

number_letters : (decimals : Bool) (mask : List ℕ) → is_number_mask decimals mask ≡ true → are_letters mask ≡ true
number_letters decimals mask h =
    minus_letters mask (run_letters is_floating floating_is_letter (without_minus mask)
    (run_letters is_fixed fixed_is_letter (after_run is_floating (without_minus mask))
    (fraction_letters decimals (behind_whole mask) (number_fraction decimals mask h))))

pub number_is_no_word : (decimals : Bool) (mask : List ℕ) → is_number_mask decimals mask ≡ true → is_word_mask mask ≡ false
number_is_no_word decimals mask h = no_word mask (number_letters decimals mask h)

-- what begins with another byte than a point is no fraction
no_fraction : (decimals : Bool) (b : ℕ) (bs : List ℕ) → (b == 46) ≡ false → is_fraction decimals (b ∷ bs) ≡ false
no_fraction decimals b [] h = refl
no_fraction true b (c ∷ cs) h = grind arith
no_fraction false b (c ∷ cs) h = refl

x_is_no_number : (decimals : Bool) (b : ℕ) (bs : List ℕ) → is_x b ≡ true → is_number_mask decimals (b ∷ bs) ≡ true → ⊥
x_is_no_number decimals b bs x h =
    let other = elim (or_cases (b == 120) (b == 88) x) as (λ _. is_fraction decimals (behind_whole (b ∷ bs)) ≡ false) [
      | inl e ↦ subst (λ (y : ℕ). is_fraction decimals (behind_whole (y ∷ bs)) ≡ false) (sym (eqb-true b 120 e)) (no_fraction decimals 120 bs refl)
      | inr e ↦ subst (λ (y : ℕ). is_fraction decimals (behind_whole (y ∷ bs)) ≡ false) (sym (eqb-true b 88 e)) (no_fraction decimals 88 bs refl)
    ] in
    both_ways (is_fraction decimals (behind_whole (b ∷ bs))) other (number_fraction decimals (b ∷ bs) h)

text_begins : (b : ℕ) (bs : List ℕ) → is_text_mask (b ∷ bs) ≡ true → is_x b ≡ true
text_begins b [] h = h
text_begins b (c ∷ cs) h = (and_parts (is_x b) _ h).0

pub number_is_no_text : (decimals : Bool) (mask : List ℕ) → is_number_mask decimals mask ≡ true → is_text_mask mask ≡ false
number_is_no_text decimals [] h = refl
number_is_no_text decimals (b ∷ bs) h =
    false_from_ne_true (is_text_mask (b ∷ bs)) (λ t. x_is_no_number decimals b bs (text_begins b bs t) h)

pub number_is_some : (decimals : Bool) (mask : List ℕ) → is_number_mask decimals mask ≡ true → 1 ≤ length mask
number_is_some decimals [] h = cc
number_is_some decimals (b ∷ bs) h = omega arith

-- ---- dates

same_bytes_are_one : (xs ys : List ℕ) → same_bytes xs ys ≡ true → xs ≡ ys
same_bytes_are_one [] [] h = refl
same_bytes_are_one [] (y ∷ ys) h = cc
same_bytes_are_one (x ∷ xs) [] h = cc
same_bytes_are_one (x ∷ xs) (y ∷ ys) h =
    let parts = and_parts (x == y) _ h in
    let first = eqb-true x y parts.0 in
    let rest = same_bytes_are_one xs ys parts.1 in
    cc

pub date_mask_is : (mask : List ℕ) → is_date_mask mask ≡ true → (mask ≡ codes "99/99/99") ⊎ (mask ≡ codes "99/99/9999")
date_mask_is mask h =
    elim (or_cases (same_bytes mask (codes "99/99/99")) (same_bytes mask (codes "99/99/9999")) h) [
      | inl e ↦ inl (same_bytes_are_one mask _ e)
      | inr e ↦ inr (same_bytes_are_one mask _ e)
    ]

-- month, day and two `/` take six bytes
pub date_mask_holds_parts : (mask : List ℕ) → is_date_mask mask ≡ true → 6 ≤ length mask
date_mask_holds_parts mask h = elim (date_mask_is mask h) [
  | inl e ↦ subst (λ (m : List ℕ). 6 ≤ length m) (sym e) (omega arith)
  | inr e ↦ subst (λ (m : List ℕ). 6 ≤ length m) (sym e) (omega arith)
]

-- ---- the width of every mask

pub width_of_text : (mask : List ℕ) → is_text_mask mask ≡ true → width_of mask ≡ text_width mask
width_of_text mask h = cond-true (is_text_mask mask) _ _ h

pub width_of_word : (mask : List ℕ) → is_word_mask mask ≡ true → width_of mask ≡ word_width mask
width_of_word mask h = cond-false (is_text_mask mask) _ _ (word_is_no_text mask h) ∙ cond-true (is_word_mask mask) _ _ h

pub width_of_number : (decimals : Bool) (mask : List ℕ) → is_number_mask decimals mask ≡ true → width_of mask ≡ length mask
width_of_number decimals mask h =
    cond-false (is_text_mask mask) _ _ (number_is_no_text decimals mask h) ∙ cond-false (is_word_mask mask) _ _ (number_is_no_word decimals mask h)

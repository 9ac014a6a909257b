-- The digits of a number spell it.
use Rattle.std.proofs.Common.{◌≡◌, ℕ, zero, suc, ◌+◌, ◌-◌, ◌*◌, ◌/◌, ◌%◌, ◌^◌, ◌<◌, ◌≤◌, Bool, true, false, not, ◌==◌, nat_le, cond, if◌then◌else◌, List, [], ◌∷◌, ◌++◌, length, take_while, fold, refl, sym, ap, ◌∙◌, arith, length-append}
use Rattle.std.specs.List.{list_all, prefix_len}
use Rattle.std.specs.Fmt.{decimal}
use Rattle.std.proofs.Math.Nat.{pow-suc}
use Rattle.std.proofs.lemmas.Fmt.{decimal_by_steps_wide}
use Rattle.std.proofs.lemmas.List.{take_at, drop_at}
use Rattle.std.proofs.lemmas.Bool.{false≢true, le-leb, leb-true, eqb-true, and_from, and_parts, not-true}
use Rattle.abl_values.specs.Masks.{is_digit}
use Rattle.abl_values.specs.Digits.{are_digits, from_first_not, number_of}
use Rattle.abl_values.specs.Order.{kept_before, without_trailing}
use Rattle.abl_values.specs.Texts.{last_digits}

-- ---- tests of every byte

pub all_append : (p : ℕ → Bool) (xs ys : List ℕ) → list_all p xs ≡ true → list_all p ys ≡ true → list_all p (xs ++ ys) ≡ true
all_append p [] ys h k = k
all_append p (x ∷ xs) ys h k =
    let both = and_parts (p x) (list_all p xs) h in
    and_from (p x) (list_all p (xs ++ ys)) both.0 (all_append p xs ys both.1 k)

pub all_weaker : (p q : ℕ → Bool) → ((b : ℕ) → p b ≡ true → q b ≡ true) → (xs : List ℕ) → list_all p xs ≡ true → list_all q xs ≡ true
all_weaker p q w [] h = refl
all_weaker p q w (x ∷ xs) h =
    let both = and_parts (p x) (list_all p xs) h in
    and_from (q x) (list_all q xs) (w x both.0) (all_weaker p q w xs both.1)

-- ---- digits

pub digit_is : (d : ℕ) → d < 10 → is_digit (48 + d) ≡ true
digit_is d h = and_from (nat_le 48 (48 + d)) (nat_le (48 + d) 57) (le-leb 48 (48 + d) (omega arith)) (le-leb (48 + d) 57 (omega arith))

pub digit_low : (b : ℕ) → is_digit b ≡ true → 48 ≤ b
digit_low b h = leb-true 48 b (and_parts (nat_le 48 b) (nat_le b 57) h).0

pub digit_high : (b : ℕ) → is_digit b ≡ true → b ≤ 57
digit_high b h = leb-true b 57 (and_parts (nat_le 48 b) (nat_le b 57) h).1

-- the number that digits spell after others
abbrev pub number_after : ℕ → List ℕ → ℕ
number_after n ds = fold (λ k b. k * 10 + (b - 48)) n ds

pub number_push : (n : ℕ) (ds : List ℕ) (d : ℕ) → number_after n (ds ++ d ∷ []) ≡ number_after n ds * 10 + (d - 48)
number_push n [] d = refl
number_push n (x ∷ xs) d = number_push (n * 10 + (x - 48)) xs d

pub are_all_digits : (ds : List ℕ) → are_digits ds ≡ true → list_all is_digit ds ≡ true
are_all_digits [] h = refl
are_all_digits (d ∷ ds) h = h

are_digits_push : (ds : List ℕ) (d : ℕ) → are_digits ds ≡ true → is_digit d ≡ true → are_digits (ds ++ d ∷ []) ≡ true
are_digits_push [] d h k = absurd (false≢true h)
are_digits_push (x ∷ xs) d h k = all_append is_digit (x ∷ xs) (d ∷ []) h (and_from (is_digit d) true k refl)

-- the digits spell the number
pub record SpellsNumber (n : ℕ) (ds : List ℕ) : Type 0 where
  pub are : are_digits ds ≡ true
  pub number : number_of ds ≡ n

one_digit : (n : ℕ) → n < 10 → SpellsNumber n ((48 + n) ∷ [])
one_digit n h = record { are = and_from (is_digit (48 + n)) true (digit_is n h) refl; number = omega arith }

more_digits : (n : ℕ) (ds : List ℕ) → 10 ≤ n → SpellsNumber (n / 10) ds → SpellsNumber n (ds ++ (48 + n % 10) ∷ [])
more_digits n ds h s = record {
  are = are_digits_push ds (48 + n % 10) s.are (digit_is (n % 10) (omega arith));
  number = omega (arith, number_push 0 ds (48 + n % 10), s.number);
}

pub decimal_spells : (n : ℕ) → n < 10 ^ 64 → SpellsNumber n (decimal n)
decimal_spells = decimal_by_steps_wide SpellsNumber one_digit more_digits

-- the last digits of a number that has no more
pub last_are : (k n : ℕ) → list_all is_digit (last_digits k n) ≡ true
last_are zero n = refl
last_are (suc k) n = all_append is_digit (last_digits k (n / 10)) ((48 + n % 10) ∷ []) (last_are k (n / 10)) (and_from (is_digit (48 + n % 10)) true (digit_is (n % 10) (omega arith)) refl)

pub last_number : (k n : ℕ) → n < 10 ^ k → number_of (last_digits k n) ≡ n
last_number zero n h = omega arith
last_number (suc k) n h =
    let less : n < 10 ^ k * 10 = omega (arith, h, pow-suc 10 k) in
    let front : n / 10 < 10 ^ k = omega arith in
    omega (arith, number_push 0 (last_digits k (n / 10)) (48 + n % 10), last_number k (n / 10) front)

pub length_last : (k n : ℕ) → length (last_digits k n) ≡ k
length_last zero n = refl
length_last (suc k) n = omega (arith, length-append (last_digits k (n / 10)) ((48 + n % 10) ∷ []), length_last k (n / 10))

-- ---- zeros at the end, of digits after a point

pub trimmed_are : (ds : List ℕ) → list_all is_digit ds ≡ true → list_all is_digit (without_trailing 48 ds) ≡ true
trimmed_are [] h = refl
trimmed_are (b ∷ bs) h =
    let both = and_parts (is_digit b) (list_all is_digit bs) h in
    by_rest (without_trailing 48 bs) both.0 (trimmed_are bs both.1)
  where
    by_zero : (t : Bool) → is_digit b ≡ true → list_all is_digit (if t then [] else b ∷ []) ≡ true
    by_zero true d = refl
    by_zero false d = and_from (is_digit b) true d refl

    by_rest : (cs : List ℕ) → is_digit b ≡ true → list_all is_digit cs ≡ true → list_all is_digit (kept_before 48 b cs) ≡ true
    by_rest [] d k = by_zero (b == 48) d
    by_rest (c ∷ cs) d k = and_from (is_digit b) (list_all is_digit (c ∷ cs)) d k

-- this number of zeros was dropped, and the number is the same with them
record Trimmed (n : ℕ) (ds kept : List ℕ) : Type 0 where
  shorter : length kept ≤ length ds
  number : number_after n kept * 10 ^ (length ds - length kept) ≡ number_after n ds

mul_turn : (a p : ℕ) → a * (p * 10) ≡ (a * 10) * p
mul_turn a p = omega arith

trimmed : (n : ℕ) (ds : List ℕ) → Trimmed n ds (without_trailing 48 ds)
trimmed n [] = record { shorter = omega arith; number = omega arith }
trimmed n (b ∷ bs) = by_rest (without_trailing 48 bs) (trimmed (n * 10 + (b - 48)) bs)
  where
    by_zero : (t : Bool) → (b == 48) ≡ t → Trimmed (n * 10 + (b - 48)) bs [] → Trimmed n (b ∷ bs) (if t then [] else b ∷ [])
    by_zero true e h =
        let zero_is : b ≡ 48 = eqb-true b 48 e in
        let power : 10 ^ (length (b ∷ bs) - 0) ≡ 10 ^ (length bs - 0) * 10 = ap (λ (k : ℕ). 10 ^ k) (omega arith) ∙ pow-suc 10 (length bs - 0) in
        let digit : n * 10 + (b - 48) ≡ n * 10 = omega arith in
        record {
          shorter = omega arith;
          number = ap (λ (p : ℕ). n * p) power ∙ mul_turn n (10 ^ (length bs - 0)) ∙ ap (λ (k : ℕ). k * 10 ^ (length bs - 0)) (sym digit) ∙ h.number;
        }
    by_zero false e h =
        let power : 10 ^ (length (b ∷ bs) - length (b ∷ [])) ≡ 10 ^ (length bs - 0) = ap (λ (k : ℕ). 10 ^ k) (omega arith) in
        record { shorter = omega arith; number = ap (λ (p : ℕ). (n * 10 + (b - 48)) * p) power ∙ h.number }

    by_rest : (cs : List ℕ) → Trimmed (n * 10 + (b - 48)) bs cs → Trimmed n (b ∷ bs) (kept_before 48 b cs)
    by_rest [] h = by_zero (b == 48) refl h
    by_rest (c ∷ cs) h =
        let power : 10 ^ (length (b ∷ bs) - length (b ∷ c ∷ cs)) ≡ 10 ^ (length bs - length (c ∷ cs)) = ap (λ (k : ℕ). 10 ^ k) (omega arith) in
        record { shorter = omega (arith, h.shorter); number = ap (λ (p : ℕ). number_after (n * 10 + (b - 48)) (c ∷ cs) * p) power ∙ h.number }

pub trimmed_shorter : (ds : List ℕ) → length (without_trailing 48 ds) ≤ length ds
trimmed_shorter ds = (trimmed 0 ds).shorter

pub trimmed_number : (ds : List ℕ) → number_of (without_trailing 48 ds) * 10 ^ (length ds - length (without_trailing 48 ds)) ≡ number_of ds
trimmed_number ds = (trimmed 0 ds).number

-- ---- digits before other bytes

-- the bytes do not begin with a digit
abbrev pub no_digit : List ℕ → Bool
no_digit [] = true
no_digit (b ∷ bs) = not (is_digit b)

one_plus : (k : ℕ) → 1 + k ≡ suc k
one_plus k = omega arith

run_is : (ds more : List ℕ) → list_all is_digit ds ≡ true → no_digit more ≡ true → prefix_len is_digit (ds ++ more) ≡ length ds
run_is [] [] h k = refl
run_is [] (b ∷ bs) h k = ap (λ (t : Bool). cond t (1 + prefix_len is_digit bs) 0) (not-true (is_digit b) k)
run_is (d ∷ ds) more h k =
    let both = and_parts (is_digit d) (list_all is_digit ds) h in
    ap (λ (t : Bool). cond t (1 + prefix_len is_digit (ds ++ more)) 0) both.0 ∙ ap (λ (n : ℕ). 1 + n) (run_is ds more both.1 k) ∙ one_plus (length ds)

pub digits_before : (ds more : List ℕ) → list_all is_digit ds ≡ true → no_digit more ≡ true → take_while is_digit (ds ++ more) ≡ ds
digits_before ds more h k = take_at ds more (prefix_len is_digit (ds ++ more)) (sym (run_is ds more h k))

pub behind_digits : (ds more : List ℕ) → list_all is_digit ds ≡ true → no_digit more ≡ true → from_first_not is_digit (ds ++ more) ≡ more
behind_digits ds more h k = drop_at ds more (prefix_len is_digit (ds ++ more)) (sym (run_is ds more h k))

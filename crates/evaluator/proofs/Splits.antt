-- The parts of a list between delimiters, one at a time.
use Rattle.std.proofs.Common.{◌≡◌, ℕ, zero, suc, ◌+◌, ◌-◌, ◌<◌, Bool, true, false, nat_lt, List, [], ◌∷◌, length, take, drop, refl, ap, ◌∙◌, arith, ℤ, pos, negsuc, Ok, Err, add-one}
use Rattle.std.proofs.lemmas.List.{take_rest, length-drop}
use Rattle.std.proofs.lemmas.Bool.Decides.{nat_tests}
use Rattle.std.specs.Prelude.{slice_index_or}
use Rattle.abl_base.specs.declared.value.Value.TheVariants.{Text}
use Rattle.expression_meaning.specs.declared.fault.RunFault.TheVariants.{Argument}
use Rattle.expression_meaning.specs.Operators.{begins_with}
use Rattle.expression_meaning.specs.Functions.{before_first, part_at, part_if, parts_after}
use Rattle.evaluator.specs.Parts.{IsSplit, part_from}

-- bytes that are passed over are dropped
passed_over : (d : List ℕ) (k : ℕ) (bs : List ℕ) → parts_after d k bs ≡ parts_after d 0 (drop k bs)
passed_over d zero [] = refl
passed_over d zero (b ∷ bs) = refl
passed_over d (suc k) [] = refl
passed_over d (suc k) (b ∷ bs) = passed_over d k bs

-- a delimiter at the front
delimited : (c : ℕ) (d : List ℕ) (b : ℕ) (bs : List ℕ) → begins_with (b ∷ bs) (c ∷ d) ≡ true → parts_after (c ∷ d) 0 (b ∷ bs) ≡ [] ∷ parts_after (c ∷ d) 0 (drop (length (c ∷ d)) (b ∷ bs))
delimited c d b bs h =
    let e : length (c ∷ d) - 1 ≡ length d = omega arith in
    rw h (rw e (ap (λ (ps : List (List ℕ)). [] ∷ ps) (passed_over (c ∷ d) (length d) bs)))

-- no delimiter at the front
undelimited : (d : List ℕ) (b : ℕ) (bs : List ℕ) → begins_with (b ∷ bs) d ≡ false → parts_after d 0 (b ∷ bs) ≡ before_first b (parts_after d 0 bs)
undelimited d b bs h = rw h refl

-- the first delimiter comes after n bytes
pub split_at : (d list : List ℕ) (n : ℕ) → 0 < length d → n < length list → ((k : ℕ) → k < n → begins_with (drop k list) d ≡ false) → begins_with (drop n list) d ≡ true → parts_after d 0 list ≡ take n list ∷ parts_after d 0 (drop (n + length d) list)
split_at [] list n h w none here = absurd (omega arith)
split_at (c ∷ d) [] n h w none here = absurd (omega arith)
split_at (c ∷ d) (b ∷ bs) zero h w none here =
    let e : 0 + length (c ∷ d) ≡ length (c ∷ d) = omega arith in rw e (delimited c d b bs here)
split_at (c ∷ d) (b ∷ bs) (suc n) h w none here =
    let e : suc n + length (c ∷ d) ≡ suc (n + length (c ∷ d)) = omega arith in
    let first : begins_with (b ∷ bs) (c ∷ d) ≡ false = none 0 (omega arith) in
    let rest = split_at (c ∷ d) bs n h (omega arith) (λ k l. none (suc k) (omega arith)) here in
    rw e (undelimited (c ∷ d) b bs first ∙ ap (before_first b) rest)

-- the list has no delimiter
pub no_split : (d list : List ℕ) → ((k : ℕ) → k < length list → begins_with (drop k list) d ≡ false) → parts_after d 0 list ≡ list ∷ []
no_split d [] none = refl
no_split d (b ∷ bs) none =
    undelimited d b bs (none 0 (omega arith)) ∙ ap (before_first b) (no_split d bs (λ k l. none (suc k) (omega arith)))

part_yes : (b : Bool) (ps : List (List ℕ)) (i : ℕ) → b ≡ true → part_if b ps i ≡ Ok (Text (slice_index_or ps i []))
part_yes true ps i h = refl
part_yes false ps i h = absurd (cc)

part_no : (b : Bool) (ps : List (List ℕ)) (i : ℕ) → b ≡ false → part_if b ps i ≡ Err Argument
part_no false ps i h = refl
part_no true ps i h = absurd (cc)

-- the first part
pub part_first : (p : List ℕ) (ps all : List (List ℕ)) → all ≡ p ∷ ps → part_from all 0 ≡ Ok (Text p)
part_first p ps all e = rw e (part_yes _ (p ∷ ps) 0 (grind (arith, nat_tests)))

same_part : (a b : Bool) (p : List ℕ) (ps : List (List ℕ)) (n : ℕ) → a ≡ b → part_if a (p ∷ ps) (n + 1) ≡ part_if b ps n
same_part true true p ps n h = rw add-one refl
same_part false false p ps n h = refl
same_part true false p ps n h = absurd (cc)
same_part false true p ps n h = absurd (cc)

-- a part is found after one part less
pub part_more : (p : List ℕ) (ps all : List (List ℕ)) (i n : ℕ) → all ≡ p ∷ ps → i ≡ n + 1 → part_from all i ≡ part_from ps n
part_more p ps all i n e s =
    rw (e, s) (same_part (nat_lt (n + 1) (length (p ∷ ps))) (nat_lt n (length ps)) p ps n (grind (arith, nat_tests)))

-- no part comes after the only one
pub part_none : (p : List ℕ) (all : List (List ℕ)) (i : ℕ) → all ≡ p ∷ [] → 0 < i → part_from all i ≡ Err Argument
part_none p all i e h = rw e (part_no _ (p ∷ []) i (grind (arith, nat_tests)))

pub part_at_none : (i : ℤ) → part_at i [] ≡ Err Argument
part_at_none (pos zero) = refl
part_at_none (pos (suc i)) = part_no _ [] i (grind (arith, nat_tests))
part_at_none (negsuc i) = refl

-- what comes before the first delimiter, and what after it
pub split_here : (d list : List ℕ) (n : ℕ) → 0 < length d → n < length list → ((k : ℕ) → k < n → begins_with (drop k list) d ≡ false) → begins_with (drop n list) d ≡ true → IsSplit d list (take n list) (take (length list - (n + length d)) (drop (n + length d) list))
split_here d list n h w none here = record {
  parts = rw (take_rest list (n + length d)) (split_at d list n h w none here);
  shorter = rw (take_rest list (n + length d)) (omega (arith, length-drop (n + length d) list));
}

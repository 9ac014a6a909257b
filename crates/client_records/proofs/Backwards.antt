-- A loop that goes over a list from its end.
use Rattle.std.proofs.Common.{◌≡◌, ℕ, ◌+◌, ◌<◌, ◌≤◌, List, [], ◌∷◌, length, get_or, take, drop, sym, ap, ◌∙◌, add-one, arith, drop-cons}
use Rattle.std.specs.Prelude.{reverse}
use Rattle.std.proofs.Math.Seq.{take-suc}
use Rattle.std.proofs.lemmas.List.{reverse-append}

-- one more of the last ones
pub one_more : {A : Type 0} (xs : List A) (k n : ℕ) (d : A) → n ≡ k + 1 → n ≤ length xs → drop k xs ≡ get_or xs k d ∷ drop n xs
one_more xs k n d next within =
    let lt : k < length xs = omega arith in
    drop-cons xs k d lt ∙ ap (λ (i : ℕ). get_or xs k d ∷ drop i xs) (sym (next ∙ add-one k))

-- the last of the first ones comes first where they are reversed
pub last_first : {A : Type 0} (xs : List A) (k n : ℕ) (d : A) → n ≡ k + 1 → n ≤ length xs → reverse (take n xs) ≡ get_or xs k d ∷ reverse (take k xs)
last_first xs k n d next within =
    let lt : k < length xs = omega arith in
    ap (λ (i : ℕ). reverse (take i xs)) (next ∙ add-one k) ∙ ap reverse (take-suc xs k d lt) ∙ reverse-append (take k xs) (get_or xs k d ∷ [])

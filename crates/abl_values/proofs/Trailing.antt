-- A dropped byte at the end of a text.
use Rattle.std.proofs.Common.{◌≡◌, ◌≢◌, ℕ, ◌+◌, ◌<◌, ◌≤◌, List, [], ◌∷◌, ◌++◌, length, get_or, take, refl, sym, ap, ◌∙◌, arith}
use Rattle.std.proofs.lemmas.List.{take_more}
use Rattle.std.proofs.lemmas.Bool.Decides.{nat_tests}
use Rattle.abl_values.specs.Order.{without_trailing, kept_before}

-- the dropped byte at the end goes
pub without_trailing-push : (d : ℕ) (xs : List ℕ) → without_trailing d (xs ++ d ∷ []) ≡ without_trailing d xs
without_trailing-push d [] = grind (arith, nat_tests)
without_trailing-push d (x ∷ xs) = ap (kept_before d x) (without_trailing-push d xs)

kept_before-push : (d x : ℕ) (xs : List ℕ) (b : ℕ) → kept_before d x (xs ++ b ∷ []) ≡ x ∷ xs ++ b ∷ []
kept_before-push d x [] b = refl
kept_before-push d x (y ∷ ys) b = refl

-- any other byte at the end stays, and so does all before it
pub without_trailing-kept : (d : ℕ) (xs : List ℕ) (b : ℕ) → b ≢ d → without_trailing d (xs ++ b ∷ []) ≡ xs ++ b ∷ []
without_trailing-kept d [] b h = grind (arith, nat_tests)
without_trailing-kept d (x ∷ xs) b h =
    ap (kept_before d x) (without_trailing-kept d xs b h) ∙ kept_before-push d x xs b

-- the same of the first bytes of a text
pub without_trailing-take_drop : (d : ℕ) (xs : List ℕ) (n : ℕ) → n < length xs → get_or xs n 0 ≡ d → without_trailing d (take (n + 1) xs) ≡ without_trailing d (take n xs)
without_trailing-take_drop d xs n h e =
    let taken = take_more xs n 0 h in
    ap (without_trailing d) (taken ∙ ap (λ (b : ℕ). take n xs ++ b ∷ []) e) ∙ without_trailing-push d (take n xs)

pub without_trailing-take_keep : (d : ℕ) (xs : List ℕ) (n : ℕ) → n < length xs → get_or xs n 0 ≢ d → without_trailing d (take (n + 1) xs) ≡ take (n + 1) xs
without_trailing-take_keep d xs n h e =
    let taken = take_more xs n 0 h in
    ap (without_trailing d) taken ∙ without_trailing-kept d (take n xs) (get_or xs n 0) e ∙ sym taken

-- a text cut from its end, byte by byte: e bytes are left of it
pub trim_more : (d : ℕ) (xs : List ℕ) (e n : ℕ) → e ≡ n + 1 → e ≤ length xs → get_or xs n 0 ≡ d → without_trailing d (take e xs) ≡ without_trailing d xs → without_trailing d (take n xs) ≡ without_trailing d xs
trim_more d xs e n is within last kept =
    let h : n < length xs = omega arith in
    sym (without_trailing-take_drop d xs n h last) ∙ ap (λ (k : ℕ). without_trailing d (take k xs)) (sym is) ∙ kept

pub trim_kept : (d : ℕ) (xs : List ℕ) (e n : ℕ) → e ≡ n + 1 → e ≤ length xs → get_or xs n 0 ≢ d → without_trailing d (take e xs) ≡ without_trailing d xs → take e xs ≡ without_trailing d xs
trim_kept d xs e n is within last kept =
    let h : n < length xs = omega arith in
    ap (λ (k : ℕ). take k xs) is ∙ sym (without_trailing-take_keep d xs n h last) ∙ ap (λ (k : ℕ). without_trailing d (take k xs)) (sym is) ∙ kept

pub trim_none : (d : ℕ) (xs : List ℕ) (e : ℕ) → e ≡ 0 → without_trailing d (take e xs) ≡ without_trailing d xs → take e xs ≡ without_trailing d xs
trim_none d xs e is kept =
    ap (λ (k : ℕ). take k xs) is ∙ ap (λ (k : ℕ). without_trailing d (take k xs)) (sym is) ∙ kept

-- What does not count at the end of a line.
use Rattle.std.proofs.Common.{◌≡◌, ℕ, ◌+◌, ◌<◌, ◌≤◌, Bool, true, false, List, [], ◌∷◌, ◌++◌, length, get_or, take, refl, sym, ap, ◌∙◌, arith}
use Rattle.std.proofs.lemmas.List.{take_more}
use Rattle.std.specs.Prelude.{if◌then◌else◌}
use Rattle.schema_lines.specs.Lines.{is_margin, kept_before, without_end}

-- a byte at the end that does not count goes
pub without_end-push : (xs : List ℕ) (b : ℕ) → is_margin b ≡ true → without_end (xs ++ b ∷ []) ≡ without_end xs
without_end-push [] b h = ap (λ (c : Bool). if c then [] else b ∷ []) h
without_end-push (x ∷ xs) b h = ap (kept_before x) (without_end-push xs b h)

kept_before-push : (x : ℕ) (xs : List ℕ) (b : ℕ) → kept_before x (xs ++ b ∷ []) ≡ x ∷ xs ++ b ∷ []
kept_before-push x [] b = refl
kept_before-push x (y ∷ ys) b = refl

-- any other byte at the end stays, and so does all before it
pub without_end-kept : (xs : List ℕ) (b : ℕ) → is_margin b ≡ false → without_end (xs ++ b ∷ []) ≡ xs ++ b ∷ []
without_end-kept [] b h = ap (λ (c : Bool). if c then [] else b ∷ []) h
without_end-kept (x ∷ xs) b h = ap (kept_before x) (without_end-kept xs b h) ∙ kept_before-push x xs b

-- a line cut from its end, byte by byte: e bytes are left of it
pub cut_more : (xs : List ℕ) (e n : ℕ) → e ≡ n + 1 → e ≤ length xs → is_margin (get_or xs n 0) ≡ true → without_end (take e xs) ≡ without_end xs → without_end (take n xs) ≡ without_end xs
cut_more xs e n is within last kept =
    let h : n < length xs = omega arith in
    sym (without_end-push (take n xs) (get_or xs n 0) last) ∙ ap without_end (sym (take_more xs n 0 h)) ∙ ap (λ (k : ℕ). without_end (take k xs)) (sym is) ∙ kept

pub cut_kept : (xs : List ℕ) (e n : ℕ) → e ≡ n + 1 → e ≤ length xs → is_margin (get_or xs n 0) ≡ false → without_end (take e xs) ≡ without_end xs → take e xs ≡ without_end xs
cut_kept xs e n is within last kept =
    let h : n < length xs = omega arith in
    let more = take_more xs n 0 h in
    ap (λ (k : ℕ). take k xs) is ∙ more ∙ sym (without_end-kept (take n xs) (get_or xs n 0) last) ∙ ap without_end (sym more) ∙ ap (λ (k : ℕ). without_end (take k xs)) (sym is) ∙ kept

pub cut_none : (xs : List ℕ) (e : ℕ) → e ≡ 0 → without_end (take e xs) ≡ without_end xs → take e xs ≡ without_end xs
cut_none xs e is kept =
    ap (λ (k : ℕ). take k xs) is ∙ ap (λ (k : ℕ). without_end (take k xs)) (sym is) ∙ kept

-- The innermost block that passes a test.
use Rattle.std.proofs.Common.{◌≡◌, ◌<◌, ◌+◌, ℕ, Bool, true, false, List, [], ◌∷◌, length, drop, get_or, refl, sym, ap, ◌∙◌}
use Rattle.std.specs.Prelude.{if◌then◌else◌}
use Rattle.bind_names.specs.declared.names.Around.{Around}
use Rattle.bind_blocks.specs.Named.{first_block}
use Rattle.bind_blocks.proofs.Items.{next_item, none_left}

-- the number of the first that passes, and of the last where none does
abbrev pub first_from : (Around → Bool) → ℕ → List Around → ℕ
first_from test last [] = last
first_from test last (x ∷ xs) = if test x then x.number else first_from test x.number xs

either_way : (t : Bool) (n : ℕ) → (if t then n else n) ≡ n
either_way true n = refl
either_way false n = refl

pub first_block_is : (test : Around → Bool) (xs : List Around) → first_block test xs ≡ first_from test 0 xs
first_block_is test [] = refl
first_block_is test (x ∷ []) = sym (either_way (test x) x.number)
first_block_is test (x ∷ y ∷ xs) = ap (λ n. if test x then x.number else n) (first_block_is test (y ∷ xs))

-- where the loop stops, and where it ends
pub found_at : (test : Around → Bool) (xs : List Around) (i : ℕ) (x : Around) (last : ℕ) → i < length xs → x ≡ get_or xs i x → test x ≡ true →
    first_from test last (drop i xs) ≡ first_from test 0 xs → x.number ≡ first_block test xs
found_at test xs i x last lt is hit h =
    let d : drop i xs ≡ x ∷ drop (i + 1) xs = next_item xs i x lt is in
    let here = rw hit at (rw d at h) in
    here ∙ sym (first_block_is test xs)

pub found_none : (test : Around → Bool) (xs : List Around) (i last : ℕ) → i ≡ length xs → first_from test last (drop i xs) ≡ first_from test 0 xs → last ≡ first_block test xs
found_none test xs i last e h =
    let d : drop i xs ≡ [] = none_left xs i e in
    (rw d at h) ∙ sym (first_block_is test xs)

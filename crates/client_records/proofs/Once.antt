-- Buffers, each once: those of the first targets before those of the others.
use Rattle.std.proofs.Common.{◌≡◌, refl, sym, ap, ◌∙◌, subst, ℕ, zero, suc, ◌+◌, ◌<◌, ◌==◌, List, [], ◌∷◌, ◌++◌, Bool, true, false, ◌||◌, append_assoc, add-one, arith, length, get_or, drop, map}
use Rattle.std.proofs.lemmas.Bool.{eqb-true}
use Rattle.std.proofs.lemmas.Bool.Decides.{nat_tests}
use Rattle.block_meaning.specs.Changes.{once, without}
use Rattle.block_meaning.specs.Frames.{is_in}
use Rattle.client_records.specs.Entries.{others}

-- nothing comes before
pub others_of_none : (bs : List ℕ) → others [] bs ≡ bs
others_of_none [] = refl
others_of_none (b ∷ bs) = ap (λ xs. b ∷ xs) (others_of_none bs)

or_false : (a : Bool) → a || false ≡ a
or_false true = refl
or_false false = refl

or_true : (a : Bool) → a || true ≡ true
or_true true = refl
or_true false = refl

or_assoc : (a b c : Bool) → a || (b || c) ≡ (a || b) || c
or_assoc true b c = refl
or_assoc false b c = refl

equal_swap : (a b : ℕ) → (a == b) ≡ (b == a)
equal_swap a b = grind (arith, nat_tests)

-- one more comes before
is_in_more : (n b : ℕ) (firsts : List ℕ) → is_in n (firsts ++ b ∷ []) ≡ is_in n firsts || (b == n)
is_in_more n b [] = or_false (n == b) ∙ equal_swap n b
is_in_more n b (m ∷ ms) = ap (λ x. (n == m) || x) (is_in_more n b ms) ∙ or_assoc (n == m) (is_in n ms) (b == n)

others_once : (same : Bool) (b : ℕ) (left firsts : List ℕ) → others firsts (once same b left) ≡ once (is_in b firsts || same) b (others firsts left)
others_once true b left firsts = ap (λ x. once x b (others firsts left)) (sym (or_true (is_in b firsts)))
others_once false b left firsts = ap (λ x. once x b (others firsts left)) (sym (or_false (is_in b firsts)))

-- b comes before
pub others_after : (b : ℕ) (firsts bs : List ℕ) → others firsts (without b bs) ≡ others (firsts ++ b ∷ []) bs
others_after b firsts [] = refl
others_after b firsts (c ∷ bs) =
    others_once (b == c) c (without b bs) firsts
    ∙ ap (λ xs. once (is_in c firsts || (b == c)) c xs) (others_after b firsts bs)
    ∙ ap (λ x. once x c (others (firsts ++ b ∷ []) bs)) (sym (is_in_more c b firsts))

in_too : (same : Bool) (b c : ℕ) (firsts : List ℕ) → same ≡ (b == c) → is_in b firsts ≡ true → is_in c firsts || same ≡ is_in c firsts
in_too true b c firsts e is = or_true (is_in c firsts) ∙ sym (subst (λ (n : ℕ). is_in n firsts ≡ true) (eqb-true b c (sym e)) is)
in_too false b c firsts e is = or_false (is_in c firsts)

-- b is one of the first already
pub others_same : (b : ℕ) (firsts bs : List ℕ) → is_in b firsts ≡ true → others firsts (without b bs) ≡ others firsts bs
others_same b firsts [] is = refl
others_same b firsts (c ∷ bs) is =
    others_once (b == c) c (without b bs) firsts
    ∙ ap (λ x. once x c (others firsts (without b bs))) (in_too (b == c) b c firsts refl is)
    ∙ ap (λ xs. once (is_in c firsts) c xs) (others_same b firsts bs is)

-- the buffer of a target is one of the first
pub not_added : (b : ℕ) (firsts bs : List ℕ) → is_in b firsts ≡ true → firsts ++ others firsts bs ≡ firsts ++ others firsts (b ∷ without b bs)
not_added b firsts bs is = ap (λ xs. firsts ++ xs) (sym (ap (λ x. once x b (others firsts (without b bs))) is ∙ others_same b firsts bs is))

-- it comes after them
pub added : (b : ℕ) (firsts bs : List ℕ) → is_in b firsts ≡ false → (firsts ++ b ∷ []) ++ others (firsts ++ b ∷ []) bs ≡ firsts ++ others firsts (b ∷ without b bs)
added b firsts bs is =
    append_assoc firsts (b ∷ []) (others (firsts ++ b ∷ []) bs)
    ∙ ap (λ xs. firsts ++ b ∷ xs) (sym (others_after b firsts bs))
    ∙ ap (λ x. firsts ++ once x b (others firsts (without b bs))) (sym is)

-- ---- the elements of a list from one place on

rest_of : {A B : Type 0} (f : A → B) (xs : List A) (i : ℕ) (x : A) → i < length xs → x ≡ get_or xs i x → drop i (map f xs) ≡ f x ∷ drop (suc i) (map f xs)
rest_of f [] i x lt is = absurd (omega (arith, lt))
rest_of f (y ∷ ys) zero x lt is = ap (λ z. f z ∷ map f ys) (sym is)
rest_of f (y ∷ ys) (suc i) x lt is = rest_of f ys i x (omega (arith, lt)) is

pub next_of : {A B : Type 0} (f : A → B) (xs : List A) (i : ℕ) (x : A) → i < length xs → x ≡ get_or xs i x → drop i (map f xs) ≡ f x ∷ drop (i + 1) (map f xs)
next_of f xs i x lt is = rest_of f xs i x lt is ∙ ap (λ (k : ℕ). f x ∷ drop k (map f xs)) (sym (add-one i))

-- What is between quotes, step by step.
use Rattle.std.proofs.Common.{ℕ, zero, suc, ◌+◌, ◌<◌, ◌≤◌, ◌≡◌, true, false, List, [], ◌∷◌, ◌++◌, length, drop, get_or, refl, sym, ◌∙◌, ap, arith, add-one, append_assoc, append-nil}
use Rattle.std.specs.Prelude.{◌==◌}
use Rattle.std.proofs.Math.Seq.{drop-cons}
use Rattle.std.proofs.lemmas.List.{drop-drop}
use Rattle.std.proofs.Math.ListN.{drop_of_length-le}
use Rattle.lexer.specs.Bytes.{tilde, starts}
use Rattle.lexer.specs.Meanings.{inside, escaped, escape_length}
use Rattle.std.proofs.lemmas.Bool.{cond-true, cond-false}

inside_nil : (q n : ℕ) → inside q n [] ≡ []
unfolding inside
inside_nil q zero = refl
inside_nil q (suc n) = refl

inside_suc : (q n b : ℕ) (bs : List ℕ) → inside q (suc n) (b ∷ bs) ≡ inside q n bs
unfolding inside
inside_suc q n b bs = refl

skip : (q n : ℕ) (xs : List ℕ) → inside q n xs ≡ inside q 0 (drop n xs)
skip q zero xs = refl
skip q (suc n) [] = inside_nil q (suc n) ∙ sym (inside_nil q 0)
skip q (suc n) (b ∷ bs) = inside_suc q n b bs ∙ skip q n bs

step_tilde : (q b : ℕ) (bs : List ℕ) → (b == tilde) ≡ true → inside q 0 (b ∷ bs) ≡ escaped bs ++ inside q (escape_length bs) bs
unfolding inside
step_tilde q b bs e = cond-true (b == tilde) _ _ e

step_plain : (q b : ℕ) (bs : List ℕ) → (b == tilde) ≡ false → (b == q) ≡ false → inside q 0 (b ∷ bs) ≡ b ∷ inside q 0 bs
unfolding inside
step_plain q b bs e f = cond-false (b == tilde) _ _ e ∙ cond-false (b == q) _ _ f

step_doubled : (q b : ℕ) (bs : List ℕ) → (b == tilde) ≡ false → (b == q) ≡ true → starts q bs ≡ true → inside q 0 (b ∷ bs) ≡ q ∷ inside q 1 bs
unfolding inside
step_doubled q b bs e f s = cond-false (b == tilde) _ _ e ∙ cond-true (b == q) _ _ f ∙ cond-true (starts q bs) _ _ s

step_last : (q b : ℕ) (bs : List ℕ) → (b == tilde) ≡ false → (b == q) ≡ true → starts q bs ≡ false → inside q 0 (b ∷ bs) ≡ []
unfolding inside
step_last q b bs e f s = cond-false (b == tilde) _ _ e ∙ cond-true (b == q) _ _ f ∙ cond-false (starts q bs) _ _ s

pub record InsideSofar (q : ℕ) (xs : List ℕ) (i : ℕ) (done : List ℕ) : Type 0 where
  pub is : inside q 0 xs ≡ done ++ inside q 0 (drop i xs)

parts : (xs : List ℕ) (i : ℕ) → i < length xs → drop i xs ≡ get_or xs i 0 ∷ drop (i + 1) xs
parts xs i h = rw (add-one, drop-cons xs i 0)

pub at_start : (q : ℕ) (xs done : List ℕ) → done ≡ [] → InsideSofar q xs 0 done
at_start q xs done e = record { is = ap (λ d. d ++ inside q 0 xs) (sym e) }

later : (q i n j : ℕ) (xs : List ℕ) → i + 1 + n ≡ j → inside q n (drop (i + 1) xs) ≡ inside q 0 (drop j xs)
later q i n j xs e = skip q n (drop (i + 1) xs) ∙ ap (inside q 0) (drop-drop n (i + 1) xs ∙ ap (λ k. drop k xs) e)

pub at_tilde : (q : ℕ) (xs : List ℕ) (i : ℕ) (done rest more : List ℕ) (n : ℕ) → InsideSofar q xs i done → i < length xs → (get_or xs i 0 == tilde) ≡ true → rest ≡ drop (i + 1) xs → n ≡ escape_length rest → more ≡ done ++ escaped rest → InsideSofar q xs (i + (1 + n)) more
at_tilde q xs i done rest more n s h t r l m = record {
  is = s.is ∙ ap (λ ys. done ++ inside q 0 ys) (parts xs i h) ∙ ap (λ ys. done ++ ys) (step_tilde q (get_or xs i 0) (drop (i + 1) xs) t)
      ∙ ap (λ ys. done ++ (escaped ys ++ inside q (escape_length ys) (drop (i + 1) xs))) (sym r)
      ∙ ap (λ k. done ++ (escaped rest ++ inside q k (drop (i + 1) xs))) (sym l)
      ∙ ap (λ ys. done ++ (escaped rest ++ ys)) (later q i n (i + (1 + n)) xs (omega arith))
      ∙ sym (append_assoc done (escaped rest) (inside q 0 (drop (i + (1 + n)) xs)))
      ∙ ap (λ d. d ++ inside q 0 (drop (i + (1 + n)) xs)) (sym m);
}

pub at_plain : (q : ℕ) (xs : List ℕ) (i : ℕ) (done more : List ℕ) → InsideSofar q xs i done → i < length xs → (get_or xs i 0 == tilde) ≡ false → (get_or xs i 0 == q) ≡ false → more ≡ done ++ (get_or xs i 0 ∷ []) → InsideSofar q xs (i + 1) more
at_plain q xs i done more s h t u m = record {
  is = s.is ∙ ap (λ ys. done ++ inside q 0 ys) (parts xs i h) ∙ ap (λ ys. done ++ ys) (step_plain q (get_or xs i 0) (drop (i + 1) xs) t u)
      ∙ sym (append_assoc done (get_or xs i 0 ∷ []) (inside q 0 (drop (i + 1) xs)))
      ∙ ap (λ d. d ++ inside q 0 (drop (i + 1) xs)) (sym m);
}

pub at_doubled : (q : ℕ) (xs : List ℕ) (i : ℕ) (done more : List ℕ) → InsideSofar q xs i done → i < length xs → (get_or xs i 0 == tilde) ≡ false → (get_or xs i 0 == q) ≡ true → starts q (drop (i + 1) xs) ≡ true → more ≡ done ++ (q ∷ []) → InsideSofar q xs (i + 2) more
at_doubled q xs i done more s h t u d m = record {
  is = s.is ∙ ap (λ ys. done ++ inside q 0 ys) (parts xs i h) ∙ ap (λ ys. done ++ ys) (step_doubled q (get_or xs i 0) (drop (i + 1) xs) t u d)
      ∙ ap (λ ys. done ++ (q ∷ ys)) (later q i 1 (i + 2) xs (omega arith))
      ∙ sym (append_assoc done (q ∷ []) (inside q 0 (drop (i + 2) xs)))
      ∙ ap (λ d. d ++ inside q 0 (drop (i + 2) xs)) (sym m);
}

pub at_last : (q : ℕ) (xs : List ℕ) (i : ℕ) (done : List ℕ) → InsideSofar q xs i done → i < length xs → (get_or xs i 0 == tilde) ≡ false → (get_or xs i 0 == q) ≡ true → starts q (drop (i + 1) xs) ≡ false → done ≡ inside q 0 xs
at_last q xs i done s h t u d = sym (s.is ∙ ap (λ ys. done ++ inside q 0 ys) (parts xs i h) ∙ ap (λ ys. done ++ ys) (step_last q (get_or xs i 0) (drop (i + 1) xs) t u d) ∙ append-nil done)

pub at_end : (q : ℕ) (xs : List ℕ) (i : ℕ) (done : List ℕ) → InsideSofar q xs i done → length xs ≤ i → done ≡ inside q 0 xs
at_end q xs i done s h = sym (s.is ∙ ap (λ ys. done ++ inside q 0 ys) (drop_of_length-le xs h) ∙ ap (λ ys. done ++ ys) (inside_nil q 0) ∙ append-nil done)

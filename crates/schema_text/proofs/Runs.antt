-- A word, and what stands after it.
use Rattle.std.proofs.Common.{◌≡◌, ℕ, ◌+◌, ◌-◌, Bool, true, false, List, [], ◌∷◌, ◌++◌, length, take, refl, ap, subst, arith}
use Rattle.std.specs.Prelude.{if◌then◌else◌}
use Rattle.std.proofs.lemmas.List.{length-append, take_at}
use Rattle.abl_values.specs.Masks.{after_run}
use Rattle.schema_text.specs.Words.{is_word_byte, run}

run_joined : (c : Bool) (b : ℕ) (xs ys bs : List ℕ) → xs ++ ys ≡ bs → (if c then b ∷ xs else []) ++ (if c then ys else b ∷ bs) ≡ b ∷ bs
run_joined true b xs ys bs e = ap (λ zs. b ∷ zs) e
run_joined false b xs ys bs e = refl

-- the word and what stands after it are the text
run-after_run : (l : List ℕ) → run l ++ after_run is_word_byte l ≡ l
run-after_run [] = refl
run-after_run (b ∷ bs) = run_joined (is_word_byte b) b (run bs) (after_run is_word_byte bs) bs (run-after_run bs)

-- the word is the text without what stands after it
pub take-run : (l : List ℕ) → take (length l - length (after_run is_word_byte l)) l ≡ run l
take-run l =
    let xs : List ℕ = run l in
    let ys : List ℕ = after_run is_word_byte l in
    let total : length (xs ++ ys) ≡ length xs + length ys = length-append xs ys in
    let n : length xs ≡ length (xs ++ ys) - length ys = omega arith in
    let P : List ℕ → Type 0 = λ t. take (length t - length ys) t ≡ xs in
    subst P (run-after_run l) (take_at xs ys (length (xs ++ ys) - length ys) n)

-- A run of bytes that pass, and what stands after it.
use Rattle.std.proofs.Common.{◌≡◌, ℕ, ◌+◌, ◌-◌, Bool, true, false, List, [], ◌∷◌, ◌++◌, length, take, refl, ap, subst, arith}
use Rattle.std.specs.Prelude.{if◌then◌else◌}
use Rattle.std.proofs.lemmas.List.{length-append, take_at}
use Rattle.abl_values.specs.Masks.{after_run}
use Rattle.schema_lines.specs.Lines.{run}

run_joined : (c : Bool) (b : ℕ) (xs ys bs : List ℕ) → xs ++ ys ≡ bs → (if c then b ∷ xs else []) ++ (if c then ys else b ∷ bs) ≡ b ∷ bs
run_joined true b xs ys bs e = ap (λ zs. b ∷ zs) e
run_joined false b xs ys bs e = refl

-- the run and what stands after it are the text
pub run-after_run : (p : ℕ → Bool) (l : List ℕ) → run p l ++ after_run p l ≡ l
run-after_run p [] = refl
run-after_run p (b ∷ bs) = run_joined (p b) b (run p bs) (after_run p bs) bs (run-after_run p bs)

-- the run is the text without what stands after it
pub take-run : (p : ℕ → Bool) (l : List ℕ) → take (length l - length (after_run p l)) l ≡ run p l
take-run p l =
    let xs : List ℕ = run p l in
    let ys : List ℕ = after_run p l in
    let total : length (xs ++ ys) ≡ length xs + length ys = length-append xs ys in
    let n : length xs ≡ length (xs ++ ys) - length ys = omega arith in
    let P : List ℕ → Type 0 = λ t. take (length t - length ys) t ≡ xs in
    subst P (run-after_run p l) (take_at xs ys (length (xs ++ ys) - length ys) n)

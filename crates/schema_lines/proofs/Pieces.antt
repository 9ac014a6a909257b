-- The first line of a text and the lines after it.
use Rattle.std.proofs.Common.{◌≡◌, ℕ, ◌-◌, ◌<◌, ◌≤◌, Bool, true, false, List, [], ◌∷◌, length, take, drop, refl, sym, ap, ◌∙◌, arith}
use Rattle.std.proofs.Math.Seq.{take-length}
use Rattle.std.specs.Prelude.{if◌then◌else◌}
use Rattle.abl_values.specs.Masks.{after_run}
use Rattle.schema_lines.specs.Lines.{is_line_byte, onto_first, pieces, run}
use Rattle.schema_lines.proofs.Runs.{take-run}

-- the lines of what stands from a line feed on; none where nothing does
abbrev pub lines_after : List ℕ → List (List ℕ)
lines_after [] = []
lines_after (b ∷ bs) = pieces bs

pieces_joined : (c : Bool) (b : ℕ) (bs xs ys : List ℕ) → pieces bs ≡ xs ∷ lines_after ys
    → (if c then onto_first b (pieces bs) else [] ∷ pieces bs) ≡ (if c then b ∷ xs else []) ∷ lines_after (if c then ys else b ∷ bs)
pieces_joined true b bs xs ys e = ap (onto_first b) e
pieces_joined false b bs xs ys e = refl

-- the first line is the run up to the line feed
pub pieces-run : (l : List ℕ) → pieces l ≡ run is_line_byte l ∷ lines_after (after_run is_line_byte l)
pieces-run [] = refl
pieces-run (b ∷ bs) =
    pieces_joined (is_line_byte b) b bs (run is_line_byte bs) (after_run is_line_byte bs) (pieces-run bs)

-- the same of a text cut at its first line feed
pieces_cut : (l end line : List ℕ) → end ≡ after_run is_line_byte l → line ≡ take (length l - length end) l → pieces l ≡ line ∷ lines_after end
pieces_cut l end line e f =
    let is_run : line ≡ run is_line_byte l =
    f ∙ ap (λ (xs : List ℕ). take (length l - length xs) l) e ∙ take-run is_line_byte l in
    pieces-run l
    ∙ ap (λ (xs : List ℕ). xs ∷ lines_after (after_run is_line_byte l)) (sym is_run)
    ∙ ap (λ (ys : List ℕ). line ∷ lines_after ys) (sym e)

lines_after-none : (end : List ℕ) → length end < 1 → lines_after end ≡ []
lines_after-none [] h = refl
lines_after-none (b ∷ bs) h = let false_ : ⊥ = omega arith in absurd false_

lines_after-some : (end : List ℕ) → 1 ≤ length end → lines_after end ≡ pieces (take (length end - 1) (drop 1 end))
lines_after-some [] h = let false_ : ⊥ = omega arith in absurd false_
lines_after-some (b ∷ bs) h =
    let n : length (b ∷ bs) - 1 ≡ length bs = omega arith in
    ap pieces (sym (ap (λ (k : ℕ). take k bs) n ∙ take-length bs))

pub pieces-none : (l end line : List ℕ) → end ≡ after_run is_line_byte l → line ≡ take (length l - length end) l → length end < 1 → pieces l ≡ line ∷ []
pieces-none l end line e f h = pieces_cut l end line e f ∙ ap (λ (ys : List (List ℕ)). line ∷ ys) (lines_after-none end h)

pub pieces-some : (l end line : List ℕ) → end ≡ after_run is_line_byte l → line ≡ take (length l - length end) l → 1 ≤ length end → pieces l ≡ line ∷ pieces (take (length end - 1) (drop 1 end))
pieces-some l end line e f h = pieces_cut l end line e f ∙ ap (λ (ys : List (List ℕ)). line ∷ ys) (lines_after-some end h)

-- The line feed that bytes need, by their last one.
use Rattle.std.proofs.Common.{◌≡◌, ◌<◌, ◌-◌, ℕ, List, [], ◌∷◌, refl, arith, length, get_or}
use Rattle.std.proofs.lemmas.Grind.{common_steps}
use Rattle.run_report.specs.Report.{line_end_of, line_end_after}

last_of-cons : (b c : ℕ) (bs : List ℕ) → get_or (b ∷ c ∷ bs) (length (b ∷ c ∷ bs) - 1) 0 ≡ get_or (c ∷ bs) (length (c ∷ bs) - 1) 0
last_of-cons b c bs = grind (arith, common_steps)

pub line_end-last : (bytes : List ℕ) → 0 < length bytes → line_end_after (get_or bytes (length bytes - 1) 0) ≡ line_end_of bytes
line_end-last [] some = absurd (omega (arith, some))
line_end-last (b ∷ []) some = refl
line_end-last (b ∷ c ∷ bs) some = rw (last_of-cons b c bs) (line_end-last (c ∷ bs) (omega arith))

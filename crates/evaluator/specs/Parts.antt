-- The parts of a list between delimiters, one at a time.
use Rattle.std.specs.Prelude.{◌≡◌, ◌<◌, ℕ, nat_lt, List, ◌∷◌, length}
use Rattle.expression_meaning.specs.Operators.{Given}
use Rattle.expression_meaning.specs.Functions.{part_if, parts_after}

-- the list is its first part, a delimiter and the rest
pub record IsSplit (delimiter list first rest : List ℕ) : Type 0 where
  pub parts : parts_after delimiter 0 list ≡ first ∷ parts_after delimiter 0 rest
  pub shorter : length rest < length list

-- the part after i others
abbrev pub part_from : List (List ℕ) → ℕ → Given
part_from parts i = part_if (nat_lt i (length parts)) parts i

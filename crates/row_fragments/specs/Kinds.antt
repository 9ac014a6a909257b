-- The kinds of the fragments of a chain.
use Rattle.std.specs.Prelude.{◌≡◌, ℕ, List, [], ◌∷◌}
use Rattle.row_fragments.specs.Fragments.{kind_in}

-- the first slot, if there is one, is of this kind, and each other one is a further fragment
abbrev pub HaveKinds : (ℕ → List ℕ) → List ℕ → ℕ → Type 0
HaveKinds slots [] kind = Unit {0}
HaveKinds slots (at ∷ rest) kind = (kind_in (slots at) ≡ kind) × HaveKinds slots rest 2

-- The keys of a map from vectors as bytes.
use Rattle.std.specs.Prelude.{ℕ, List, [], ◌∷◌, Vec}

-- the entries under the bytes of their keys
abbrev pub by_bytes : {V Z : Type 0} → List (Vec ℕ Z × V) → List (List ℕ × V)
by_bytes [] = []
by_bytes (e ∷ es) = (e.0.items, e.1) ∷ by_bytes es

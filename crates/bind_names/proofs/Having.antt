-- The buffers that pass a test, one after the other.
use Rattle.std.proofs.Common.{◌≡◌, ℕ, List, ◌∷◌, drop, Bool, Option, Some, None}
use Rattle.std.specs.List.{filter}
use Rattle.bind_names.specs.declared.names.NamedBuffer.{NamedBuffer}

-- those that pass are those of the rest, after the first found
abbrev pub Passed : (NamedBuffer → Bool) → List NamedBuffer → ℕ → Option NamedBuffer → Type 0
Passed test bs i None = filter test bs ≡ filter test (drop i bs)
Passed test bs i (Some b) = filter test bs ≡ b ∷ filter test (drop i bs)

-- The first violation of one part after another is the first of both.
use Rattle.std.proofs.Common.{◌≡◌, List, [], ◌∷◌, ◌++◌, Option, Some, refl}
use Rattle.bind_names.specs.declared.violation.Violation.{Violation}
use Rattle.buffer_scope.specs.First.{earlier, first_of}

pub first_of_append : (o : Option Violation) (vs ws : List Violation) → first_of o (vs ++ ws) ≡ first_of (first_of o vs) ws
first_of_append o [] ws = refl
first_of_append o (v ∷ vs) ws = first_of_append (Some (earlier o v)) vs ws

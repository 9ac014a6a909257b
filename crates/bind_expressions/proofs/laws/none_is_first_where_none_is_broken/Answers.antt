use Rattle.std.proofs.Common.{◌≡◌, List, [], ◌∷◌, Some, None, refl}
use Rattle.bind_names.specs.declared.violation.Violation.{Violation}
use Rattle.bind_names.specs.Judged.{earlier, first, first_of}
use Rattle.bind_expressions.proofs.laws.none_is_first_where_none_is_broken.Goals as goal

stays : (w : Violation) (vs : List Violation) → first_of (Some w) vs ≡ None → ⊥
stays w [] e = absurd cc
stays w (v ∷ vs) e = stays (earlier (Some w) v) vs e

none : (vs : List Violation) → first vs ≡ None → vs ≡ []
none [] e = refl
none (v ∷ vs) e = absurd (stays v vs e)

pub returns : goal.returns
returns c = none

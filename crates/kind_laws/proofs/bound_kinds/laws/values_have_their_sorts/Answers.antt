use Rattle.kind_laws.proofs.BoundKindsLemmas.Valued.{good_has}
use Rattle.kind_laws.proofs.bound_kinds.laws.values_have_their_sorts.Goals as goal

pub returns : goal.returns
returns c = good_has

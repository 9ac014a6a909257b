use Rattle.kind_laws.proofs.BoundKindsLemmas.Whole.{well_kinded}
use Rattle.kind_laws.proofs.bound_kinds.laws.what_is_bound_is_well_kinded.Goals as goal

pub returns : goal.returns
returns c = well_kinded

use Rattle.kind_laws.proofs.BoundKindsLemmas.Valued.{mask_fits_value}
use Rattle.kind_laws.proofs.bound_kinds.laws.masks_fit_the_values_shown.Goals as goal

pub returns : goal.returns
returns c = mask_fits_value

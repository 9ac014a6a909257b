use Rattle.kind_laws.proofs.BoundKindsLemmas.Schemas.{schema_masked}
use Rattle.kind_laws.proofs.bound_kinds.laws.masks_of_schema_files_fit.Goals as goal

pub returns : goal.returns
returns c = schema_masked

use Rattle.kind_laws.proofs.SchemasLemmas.Sources.{bound_found}
use Rattle.kind_laws.proofs.schemas.laws.trees_name_what_the_schema_has.Goals as goal

pub returns : goal.returns
returns c = bound_found

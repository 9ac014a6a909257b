-- A `Schema` can hold what a file without violation means.
use Rattle.schema_text.proofs.HeldLemmas.Held.{files-held}
use Rattle.schema_text.proofs.held.laws.schemas_of_files_are_held.Goals as goal

pub returns : goal.returns
returns c = files-held

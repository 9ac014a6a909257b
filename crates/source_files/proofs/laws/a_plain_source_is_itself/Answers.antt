use Rattle.source_files.proofs.Plain.{plain_itself}
use Rattle.source_files.proofs.laws.a_plain_source_is_itself.Goals as goal

pub returns : goal.returns
returns c = plain_itself

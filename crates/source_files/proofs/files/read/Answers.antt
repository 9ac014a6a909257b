use Rattle.source_files.specs.Files.{reading_wants}
use Rattle.source_files.proofs.files.read.Goals as goal

pub returns-in_default-clause-refused : goal.returns-in_default-clause-refused
returns-in_default-clause-refused g c = reading_wants

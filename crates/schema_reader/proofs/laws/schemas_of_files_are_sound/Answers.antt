use Rattle.schema_reader.proofs.ObservableSound.{files-sound}
use Rattle.schema_reader.proofs.laws.schemas_of_files_are_sound.Goals as goal

pub returns : goal.returns
returns c = files-sound

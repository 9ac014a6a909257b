use Rattle.table_changes.proofs.Sound.{sound-with, sound-without}
use Rattle.table_changes.proofs.laws.changed_tables_are_sound.Goals as goal

pub returns : goal.returns
returns c = record { added = sound-with; dropped = sound-without }

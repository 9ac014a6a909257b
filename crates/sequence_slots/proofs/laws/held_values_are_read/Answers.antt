use Rattle.sequence_slots.proofs.Reading.{values_read}
use Rattle.sequence_slots.proofs.laws.held_values_are_read.Goals as goal

pub returns : goal.returns
returns c = values_read

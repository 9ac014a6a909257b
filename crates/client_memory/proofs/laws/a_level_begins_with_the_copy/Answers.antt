use Rattle.client_memory.proofs.LevelFrames.{copy_is}
use Rattle.client_memory.proofs.laws.a_level_begins_with_the_copy.Goals as goal

pub returns : goal.returns
returns c = copy_is

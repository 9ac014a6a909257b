use Rattle.client_memory.proofs.LevelFrames.{left_is}
use Rattle.client_memory.proofs.laws.a_level_is_left.Goals as goal

pub returns : goal.returns
returns c = left_is

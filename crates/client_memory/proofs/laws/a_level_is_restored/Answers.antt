use Rattle.client_memory.proofs.LevelFrames.{restored_is}
use Rattle.client_memory.proofs.laws.a_level_is_restored.Goals as goal

pub returns : goal.returns
returns c = restored_is

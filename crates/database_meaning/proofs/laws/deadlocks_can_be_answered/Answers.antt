use Rattle.database_meaning.proofs.Shortest.{cycle_of}
use Rattle.database_meaning.proofs.laws.deadlocks_can_be_answered.Goals as goal

pub returns : goal.returns
returns c = cycle_of

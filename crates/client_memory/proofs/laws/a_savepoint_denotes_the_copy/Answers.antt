use Rattle.client_memory.proofs.Copies.{copy_now}
use Rattle.client_memory.proofs.laws.a_savepoint_denotes_the_copy.Goals as goal

pub returns : goal.returns
returns c = copy_now

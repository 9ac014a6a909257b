use Rattle.client_memory.proofs.Copies.{copy_after_run}
use Rattle.client_memory.proofs.laws.procedures_change_no_copy.Goals as goal

pub returns : goal.returns
returns c = copy_after_run

use Rattle.client_memory.proofs.Copies.{copy_after_back}
use Rattle.client_memory.proofs.laws.restoring_changes_no_copy.Goals as goal

pub returns : goal.returns
returns c = copy_after_back

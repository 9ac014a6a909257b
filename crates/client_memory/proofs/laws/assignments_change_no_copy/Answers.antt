use Rattle.client_memory.proofs.Copies.{copy_after_value}
use Rattle.client_memory.proofs.laws.assignments_change_no_copy.Goals as goal

pub returns : goal.returns
returns c = copy_after_value

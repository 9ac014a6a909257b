use Rattle.client_memory.proofs.Copies.{puts_the_copy_back}
use Rattle.client_memory.proofs.laws.what_is_restored_is_the_copy.Goals as goal

pub returns : goal.returns
returns c = puts_the_copy_back

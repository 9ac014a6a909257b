use Rattle.flat_machine.proofs.Machine.{asks_means}
use Rattle.flat_machine.proofs.laws.the_run_asks_what_the_machine_asks.Goals as goal

pub returns : goal.returns
returns c = asks_means

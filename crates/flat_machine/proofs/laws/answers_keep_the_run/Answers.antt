use Rattle.flat_machine.proofs.Machine.{answered_means}
use Rattle.flat_machine.proofs.laws.answers_keep_the_run.Goals as goal

pub returns : goal.returns
returns c = answered_means

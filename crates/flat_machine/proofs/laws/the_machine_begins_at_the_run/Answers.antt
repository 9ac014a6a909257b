use Rattle.flat_machine.proofs.Machine.{first_config_means}
use Rattle.flat_machine.proofs.laws.the_machine_begins_at_the_run.Goals as goal

pub returns : goal.returns
returns c = λ code tree p is units ans. first_config_means code tree p is units ans

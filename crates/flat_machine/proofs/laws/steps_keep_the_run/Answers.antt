use Rattle.flat_machine.proofs.Machine.{step_means}
use Rattle.flat_machine.proofs.laws.steps_keep_the_run.Goals as goal

pub returns : goal.returns
returns c = λ code tree p is k ans. step_means code tree p is k ans

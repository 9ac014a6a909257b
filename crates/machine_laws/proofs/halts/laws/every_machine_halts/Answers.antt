use Rattle.machine_laws.proofs.HaltsLemmas.Runs.{halts}
use Rattle.machine_laws.proofs.halts.laws.every_machine_halts.Goals as goal

pub returns : goal.returns
returns c = halts

use Rattle.machine_laws.proofs.UnitsLemmas.Runs.{step_spends}
use Rattle.machine_laws.proofs.units.laws.steps_spend_units.Goals as goal

pub returns : goal.returns
returns c = step_spends

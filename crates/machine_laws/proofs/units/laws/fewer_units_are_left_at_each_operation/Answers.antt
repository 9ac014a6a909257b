use Rattle.machine_laws.proofs.UnitsLemmas.Runs.{steps_spend}
use Rattle.machine_laws.proofs.units.laws.fewer_units_are_left_at_each_operation.Goals as goal

pub returns : goal.returns
returns c = steps_spend

use Rattle.block_meaning.proofs.Runs.{run_paid}
use Rattle.block_meaning.proofs.laws.operations_cost_units.Goals as goal

pub returns : goal.returns
returns c = run_paid

use Rattle.machine_laws.proofs.OperationsLemmas.Runs.{changes_held}
use Rattle.machine_laws.proofs.operations.laws.changes_are_of_rows_held_exclusively.Goals as goal

pub returns : goal.returns
returns c = changes_held

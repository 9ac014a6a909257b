use Rattle.machine_laws.proofs.PendingLemmas.Runs.{inserted_inside}
use Rattle.machine_laws.proofs.pending.laws.insertions_are_inside_a_level.Goals as goal

pub returns : goal.returns
returns c = inserted_inside

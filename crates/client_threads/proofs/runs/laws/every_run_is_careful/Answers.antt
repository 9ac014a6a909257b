use Rattle.client_threads.proofs.RunsLemmas.Careful.{run_is_careful}
use Rattle.client_threads.proofs.runs.laws.every_run_is_careful.Goals as goal

pub returns : goal.returns
returns c = run_is_careful

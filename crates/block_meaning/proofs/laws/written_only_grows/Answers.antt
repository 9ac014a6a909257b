use Rattle.block_meaning.proofs.Runs.{run_grows}
use Rattle.block_meaning.proofs.laws.written_only_grows.Goals as goal

pub returns : goal.returns
returns c = run_grows

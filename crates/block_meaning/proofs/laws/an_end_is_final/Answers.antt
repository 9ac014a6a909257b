use Rattle.block_meaning.proofs.Runs.{run_stays}
use Rattle.block_meaning.proofs.laws.an_end_is_final.Goals as goal

pub returns : goal.returns
returns c = run_stays

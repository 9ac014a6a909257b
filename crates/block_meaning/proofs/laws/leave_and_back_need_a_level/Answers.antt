use Rattle.block_meaning.proofs.Level_runs.{run_asks}
use Rattle.block_meaning.proofs.laws.leave_and_back_need_a_level.Goals as goal

pub returns : goal.returns
returns c = run_asks

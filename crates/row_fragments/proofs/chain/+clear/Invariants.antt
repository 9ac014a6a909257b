use Rattle.std.proofs.Common.{length}
use Rattle.row_fragments.proofs.chain.+clear.Given as goal

abbrev pub decreases-clear : goal.decreases-clear
decreases-clear g l = length l.freed.now

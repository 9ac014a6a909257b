use Rattle.std.proofs.Common.{length}
use Rattle.row_fragments.proofs.write.+write_chain.Given as goal

abbrev pub decreases-write_chain : goal.decreases-write_chain
decreases-write_chain g l = length l.drawn.now

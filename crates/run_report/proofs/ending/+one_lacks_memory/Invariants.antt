use Rattle.std.proofs.Common.{length}
use Rattle.run_report.proofs.ending.+one_lacks_memory.Given as goal

abbrev pub decreases-one_lacks_memory : goal.decreases-one_lacks_memory
decreases-one_lacks_memory l = length l.ends.now

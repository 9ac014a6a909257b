use Rattle.std.proofs.Common.{◌≤◌, length}
use Rattle.key_index.proofs.prefix.after_prefix.Given as goal

abbrev pub invariant-loop-end : goal.invariant-loop-end
invariant-loop-end l = l.end ≤ length l.prefix

abbrev pub decreases-loop-end : goal.decreases-loop-end
decreases-loop-end l = l.end

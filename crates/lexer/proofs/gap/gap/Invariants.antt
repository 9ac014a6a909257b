use Rattle.std.proofs.Common.{length, ◌-◌}
use Rattle.lexer.proofs.Gaps.{GapSofar}
use Rattle.lexer.proofs.gap.gap.Given as goal

abbrev pub invariant-loop-i : goal.invariant-loop-i
invariant-loop-i l = GapSofar l.rest l.i

abbrev pub decreases-loop-i : goal.decreases-loop-i
decreases-loop-i l = length l.rest - l.i

use Rattle.std.proofs.Common.{length, ◌-◌}
use Rattle.lexer.proofs.Closings.{ClosingSofar}
use Rattle.lexer.proofs.word.closing_len.Given as goal

abbrev pub invariant-loop-i : goal.invariant-loop-i
invariant-loop-i l = ClosingSofar l.quote l.rest l.i

abbrev pub decreases-loop-i : goal.decreases-loop-i
decreases-loop-i l = length l.rest - l.i

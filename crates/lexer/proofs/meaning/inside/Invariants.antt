use Rattle.std.proofs.Common.{length, ◌-◌}
use Rattle.lexer.proofs.Insides.{InsideSofar}
use Rattle.lexer.proofs.meaning.inside.Given as goal

abbrev pub invariant-loop-i : goal.invariant-loop-i
invariant-loop-i l = InsideSofar l.quote l.rest l.i l.bytes.items

abbrev pub decreases-loop-i : goal.decreases-loop-i
decreases-loop-i l = length l.rest - l.i

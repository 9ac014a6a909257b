use Rattle.std.proofs.Common.{length}
use Rattle.test_sources.proofs.Shorts.{AreShort}
use Rattle.test_sources.proofs.expansions.answers.are_short.Given as goal

-- all texts are short if those that are left are
abbrev pub invariant-loop-rest : goal.invariant-loop-rest
invariant-loop-rest l = AreShort l.rest → AreShort l.texts

abbrev pub decreases-loop-rest : goal.decreases-loop-rest
decreases-loop-rest l = length l.rest

use Rattle.std.proofs.Common.{◌≡◌}
use Rattle.preprocessor.specs.Expansion.{expansion}
use Rattle.preprocessor.specs.Machine.{meaning, work_left}
use Rattle.preprocessor.proofs.expansion.expansion.Given as goal

abbrev pub invariant-loop-next : goal.invariant-loop-next
invariant-loop-next l = meaning l.texts l.machine ≡ expansion l.texts

abbrev pub decreases-loop-next : goal.decreases-loop-next
decreases-loop-next l = work_left l.machine

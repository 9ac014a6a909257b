use Rattle.std.proofs.Common.{◌≡◌, take}
use Rattle.preprocessor.specs.Answers.{origins_of}
use Rattle.preprocessor.proofs.answer.origins_of.Given as goal

abbrev pub invariant-loop-mark : goal.invariant-loop-mark
invariant-loop-mark l = l.origins.items ≡ origins_of (take l.mark-index l.marks)

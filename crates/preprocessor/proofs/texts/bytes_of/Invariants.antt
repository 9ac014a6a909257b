use Rattle.std.proofs.Common.{◌≡◌, take}
use Rattle.preprocessor.specs.Texts.{bytes_of}
use Rattle.preprocessor.proofs.texts.bytes_of.Given as goal

abbrev pub invariant-loop-mark : goal.invariant-loop-mark
invariant-loop-mark l = l.bytes.items ≡ bytes_of (take l.mark-index l.marks)

use Rattle.std.proofs.Common.{◌≡◌, take}
use Rattle.preprocessor.specs.Texts.{marked}
use Rattle.preprocessor.proofs.texts.marked.Given as goal

abbrev pub invariant-loop-byte : goal.invariant-loop-byte
invariant-loop-byte l = l.marks.items ≡ marked l.text l.place (take l.byte-index l.bytes)

use Rattle.std.proofs.Common.{◌≡◌, [], length}
use Rattle.preprocessor.specs.References.{file_of}
use Rattle.preprocessor.proofs.reference.file_of.Given as goal

abbrev pub invariant-loop-rest : goal.invariant-loop-rest
invariant-loop-rest l = file_of l.name l.arguments l.definitions l.rest ≡ file_of l.name [] [] l.words

abbrev pub decreases-loop-rest : goal.decreases-loop-rest
decreases-loop-rest l = length l.rest

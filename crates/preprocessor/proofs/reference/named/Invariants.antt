use Rattle.std.proofs.Common.{◌≡◌, [], length}
use Rattle.preprocessor.specs.References.{named}
use Rattle.preprocessor.proofs.reference.named.Given as goal

abbrev pub invariant-loop-rest : goal.invariant-loop-rest
invariant-loop-rest l = named l.name l.rest ≡ named [] l.bytes

abbrev pub decreases-loop-rest : goal.decreases-loop-rest
decreases-loop-rest l = length l.rest

use Rattle.std.proofs.Common.{◌≡◌, [], false, length}
use Rattle.preprocessor.specs.Directives.{made_of}
use Rattle.preprocessor.proofs.directive.made_of.Given as goal

abbrev pub invariant-loop-rest : goal.invariant-loop-rest
invariant-loop-rest l = made_of l.maker l.name l.ended l.value l.pending l.rest ≡ made_of l.maker [] false [] [] l.line

abbrev pub decreases-loop-rest : goal.decreases-loop-rest
decreases-loop-rest l = length l.rest

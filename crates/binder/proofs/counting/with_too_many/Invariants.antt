use Rattle.std.proofs.Common.{drop}
use Rattle.binder.specs.Counted.{Stands}
use Rattle.binder.proofs.counting.with_too_many.Given as goal

abbrev pub invariant-loop-naming : goal.invariant-loop-naming
invariant-loop-naming l = Stands l.fn.first l.names (drop l.naming-index l.names) l.counted

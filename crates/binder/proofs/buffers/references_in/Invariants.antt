use Rattle.std.proofs.Common.{◌≡◌, ◌++◌, drop}
use Rattle.binder.specs.Sources.{references_in}
use Rattle.binder.proofs.buffers.references_in.Given as goal

abbrev pub invariant-loop-naming : goal.invariant-loop-naming
invariant-loop-naming l = l.found.items ++ references_in l.procedure l.buffers (drop l.naming-index l.said) ≡ references_in l.procedure l.buffers l.said

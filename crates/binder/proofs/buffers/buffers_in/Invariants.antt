use Rattle.std.proofs.Common.{◌≡◌, drop, map}
use Rattle.std.specs.Prelude.{◌==◌}
use Rattle.std.specs.List.{filter}
use Rattle.bind_names.specs.Names.{buffers_in, distinct}
use Rattle.binder.proofs.buffers.buffers_in.Given as goal

abbrev pub invariant-loop-naming : goal.invariant-loop-naming
invariant-loop-naming l = distinct l.found (filter (λ n. n.procedure == l.procedure) (drop l.naming-index l.said)) ≡ buffers_in l.procedure l.said

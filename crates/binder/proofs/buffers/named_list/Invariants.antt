use Rattle.std.proofs.Common.{◌≡◌, drop, map}
use Rattle.std.specs.Prelude.{◌==◌, ◌&&◌}
use Rattle.std.specs.List.{filter}
use Rattle.bind_names.specs.Names.{distinct, named_in}
use Rattle.binder.proofs.buffers.named_list.Given as goal

abbrev pub invariant-loop-naming : goal.invariant-loop-naming
invariant-loop-naming l = distinct l.found (filter (λ n. n.explicit && (n.procedure == l.procedure)) (drop l.naming-index l.said)) ≡ named_in l.procedure l.said

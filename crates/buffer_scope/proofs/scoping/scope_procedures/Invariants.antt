use Rattle.std.proofs.Common.{◌≡◌, drop, map}
use Rattle.bound_tree.specs.Bound.{procedure_of}
use Rattle.buffer_scope.specs.First.{first_of}
use Rattle.buffer_scope.specs.Rules.{procedures_break}
use Rattle.buffer_scope.specs.Scoped.{scoped_procedure}
use Rattle.buffer_scope.specs.Views.{all_of}
use Rattle.txn_infer.proofs.EachOne.{Unvisited, Visited}
use Rattle.buffer_scope.proofs.scoping.scope_procedures.Given as goal

abbrev pub invariant-loop-i : goal.invariant-loop-i
invariant-loop-i l = record {
  rest : Unvisited l.procedures.items l.initial.procedures.items l.i;
  done : Visited procedure_of (scoped_procedure (all_of l.blocks)) l.procedures.items l.initial.procedures.items l.i;
  so_far : first_of l.initial.first (procedures_break (all_of l.blocks) (map procedure_of l.initial.procedures.items))
      ≡ first_of l.first (procedures_break (all_of l.blocks) (map procedure_of (drop l.i l.initial.procedures.items)));
}

use Rattle.std.specs.Prelude.{map}
use Rattle.bound_tree.specs.Bound.{stmt_of}
use Rattle.buffer_scope.specs.Scoped.{scoped_among, scoped_stmt}
use Rattle.buffer_scope.specs.Views.{all_of, found_of}
use Rattle.txn_infer.proofs.EachOne.{Unvisited, Visited}
use Rattle.buffer_scope.proofs.scoping.+filling.Given as goal

abbrev pub invariant-fill_body-loop-i : goal.invariant-fill_body-loop-i
invariant-fill_body-loop-i l = record {
  rest : Unvisited l.body.items l.initial.body.items l.i;
  done : Visited stmt_of (scoped_stmt (scoped_among (all_of l.blocks) 0 (map found_of l.scopes))) l.body.items l.initial.body.items l.i;
}

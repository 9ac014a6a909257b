use Rattle.std.proofs.Common.{◌≡◌, ◌||◌, drop}
use Rattle.bound_tree.specs.Bound.{stmt_of}
use Rattle.txn_infer.specs.Flags.{flagged_stmt}
use Rattle.txn_infer.proofs.EachOne.{Visited}
use Rattle.txn_infer.proofs.Flagged.{any_updates, any_retries}
use Rattle.txn_infer.proofs.inference.+inference.Given as goal

abbrev pub invariant-infer_body-loop-i : goal.invariant-infer_body-loop-i
invariant-infer_body-loop-i l = record {
  rest : goal.unvisited-infer_body-loop-i l;
  done : Visited stmt_of flagged_stmt l.body.items l.initial.body.items l.i;
  updates : any_updates l.initial.body.items ≡ l.facts.updates || any_updates (drop l.i l.initial.body.items);
  retries : any_retries l.initial.body.items ≡ l.facts.names_retry || any_retries (drop l.i l.initial.body.items);
}

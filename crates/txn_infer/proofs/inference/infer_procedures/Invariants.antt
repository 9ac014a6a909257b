use Rattle.bound_tree.specs.Bound.{procedure_of}
use Rattle.txn_infer.specs.Flags.{flagged_procedure}
use Rattle.txn_infer.proofs.EachOne.{Unvisited, Visited}
use Rattle.txn_infer.proofs.inference.infer_procedures.Given as goal

abbrev pub invariant-loop-i : goal.invariant-loop-i
invariant-loop-i l = record {
  rest : Unvisited l.procedures.items l.initial.procedures.items l.i;
  done : Visited procedure_of flagged_procedure l.procedures.items l.initial.procedures.items l.i;
}

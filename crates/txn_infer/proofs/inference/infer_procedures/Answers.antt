use Rattle.std.proofs.Common.{◌≡◌, ◌<◌, length, get_or, ◌∙◌, arith}
use Rattle.bound_tree.specs.Bound.{procedure_of}
use Rattle.txn_infer.specs.Flags.{flagged_procedure}
use Rattle.txn_infer.proofs.EachOne.{all_visited, unvisited_next, visited_next}
use Rattle.txn_infer.proofs.inference.infer_procedures.Goals as goal

pub loop-i-preserved : goal.loop-i-preserved
loop-i-preserved c =
    let l = c.loop-i in let ys = c.args.procedures.now.items in let u = c.index_mut.result.now in let q = c.infer_procedure.new.procedure in
    let within : l.i < length ys = omega (arith, c.loop-i-test.true, c.len-i-end.ensures) in
    let is : u ≡ get_or ys l.i u = c.index_mut.ensures.value ∙ l.invariant.rest.1 l.i u (omega arith) in
    record {
      rest = unvisited_next l.procedures.items ys l.i q l.invariant.rest;
      done = visited_next procedure_of flagged_procedure l.procedures.items ys l.i q u within l.invariant.rest.0 is c.infer_procedure.ensures l.invariant.done;
    }

pub returns : goal.returns
returns c =
    let l = c.loop-i in
    all_visited procedure_of flagged_procedure l.procedures.items c.args.procedures.now.items l.invariant.rest.0
    (λ k d below. l.invariant.done k d (omega (arith, below, c.loop-i-test.false, c.len-i-end.ensures)))

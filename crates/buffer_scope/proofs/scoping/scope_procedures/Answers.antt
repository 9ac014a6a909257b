use Rattle.std.proofs.Common.{◌≡◌, ◌<◌, length, get_or, ◌∙◌, arith}
use Rattle.bound_tree.specs.Bound.{procedure_of}
use Rattle.buffer_scope.specs.Scoped.{scoped_procedure}
use Rattle.buffer_scope.specs.Views.{all_of}
use Rattle.txn_infer.proofs.EachOne.{all_visited, unvisited_next, visited_next}
use Rattle.buffer_scope.proofs.Filled.{next_procedure}
use Rattle.buffer_scope.proofs.scoping.scope_procedures.Goals as goal

pub loop-i-preserved : goal.loop-i-preserved
loop-i-preserved c =
    let l = c.loop-i in let ys = c.args.procedures.now.items in let u = c.index_mut.result.now in let q = c.scope_procedure.new.procedure in
    let h = scoped_procedure (all_of c.args.blocks.now) in let e = c.in_ok-scope_procedure.ensures in
    let within : l.i < length ys = omega (arith, c.loop-i-test.true, c.len-i-end.ensures) in
    let is : u ≡ get_or ys l.i u = c.index_mut.ensures.value ∙ l.invariant.rest.1 l.i u (omega arith) in
    record {
      rest = unvisited_next l.procedures.items ys l.i q l.invariant.rest;
      done = visited_next procedure_of h l.procedures.items ys l.i q u within l.invariant.rest.0 is e.procedure l.invariant.done;
      so_far = next_procedure (all_of c.args.blocks.now) ys l.i u _ _ _ within is l.invariant.so_far e.first;
    }

pub returns-clause-procedures : goal.returns-clause-procedures
returns-clause-procedures c =
    let l = c.loop-i in
    all_visited procedure_of (scoped_procedure (all_of c.args.blocks.now)) l.procedures.items c.args.procedures.now.items l.invariant.rest.0
    (λ k d below. l.invariant.done k d (omega (arith, below, c.loop-i-test.false, c.len-i-end.ensures)))

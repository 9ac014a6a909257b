use Rattle.std.proofs.Common.{arith}
use Rattle.std.specs.Prelude.{map}
use Rattle.bound_tree.specs.Bound.{stmt_of}
use Rattle.buffer_scope.specs.Scoped.{scoped_among, scoped_stmt}
use Rattle.buffer_scope.specs.Views.{all_of, found_of}
use Rattle.txn_infer.proofs.EachOne.{all_visited}
use Rattle.buffer_scope.proofs.Filled.{all_scoped, block_scoped, if_scoped}
use Rattle.buffer_scope.proofs.scoping.+filling.Goals as goal

pub fill_stmt-returns-in_ok-fill_body-in-Block : goal.fill_stmt-returns-in_ok-fill_body-in-Block
fill_stmt-returns-in_ok-fill_body-in-Block t c =
    let b = c.in-Block in let to = scoped_among (all_of c.args.blocks.now) 0 (map found_of c.args.scopes.now) in
    block_scoped to _ _ b.header (record b.header { value = c.fill_header.new.header }) _ _ b.body c.fill_body.new.body b.is b.header-is b.body-is c.deref_mut.ensures.value
    c.in_ok-fill_header-in-Block.ensures c.in_ok-fill_body-in-Block.ensures

pub fill_stmt-returns-in_ok-fill_body-in-If-2 : goal.fill_stmt-returns-in_ok-fill_body-in-If-2
fill_stmt-returns-in_ok-fill_body-in-If-2 t c =
    let i = c.in-If in let to = scoped_among (all_of c.args.blocks.now) 0 (map found_of c.args.scopes.now) in
    if_scoped to _ _ i.test _ i.then_body c.fill_body-in-If.new.body _ i.else_body c.fill_body-in-If-2.new.body
    c.in_ok-fill_body-in-If.ensures c.in_ok-fill_body-in-If-2.ensures i.is i.test-is i.then_body-is i.else_body-is

pub fill_body-returns : goal.fill_body-returns
fill_body-returns t c =
    let l = c.loop-i in let ys = c.args.body.now.items in let to = scoped_among (all_of c.args.blocks.now) 0 (map found_of c.args.scopes.now) in
    all_scoped to l.body.items ys (all_visited stmt_of (scoped_stmt to) l.body.items ys l.invariant.rest.0
    (λ k d below. l.invariant.done k d (omega (arith, below, c.loop-i-test.false, c.len-i-end.ensures))))

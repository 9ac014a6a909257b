use Rattle.buffer_scope.proofs.Walk.{into_block, next_statement}
use Rattle.buffer_scope.proofs.blocks.+walk.Goals as goal

pub through_all-loop-statement-preserved : goal.through_all-loop-statement-preserved
through_all-loop-statement-preserved t c =
    next_statement c.args.outer.now c.args.body.now c.loop-statement.statement-index c.statement-item.result _ _ _
    c.loop-statement-test.true c.statement-item.is c.loop-statement.invariant c.in_ok-through.ensures

pub through-returns-in_ok-through_all-in-Block : goal.through-returns-in_ok-through_all-in-Block
through-returns-in_ok-through_all-in-Block t c =
    into_block _ c.in-Block.head c.in-Block.body c.args.outer.now c.in_ok-around-in-Block.around.items _ _ _ _ _ _ _ _
    c.in-Block.is c.deref.ensures c.deref-in-Block.ensures c.deref-in-Block-3.ensures.value c.may_scope-capable.ensures c.in_ok-around-in-Block.ensures.block
    c.in_ok-around-in-Block.ensures.around c.deref-in-Block-2.ensures.value c.in_ok-through_all-in-Block.ensures

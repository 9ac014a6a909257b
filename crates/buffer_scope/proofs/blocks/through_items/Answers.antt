use Rattle.buffer_scope.proofs.Walk.{next_item}
use Rattle.buffer_scope.proofs.blocks.through_items.Goals as goal

pub loop-item-preserved : goal.loop-item-preserved
loop-item-preserved c =
    next_item c.args.items.now c.loop-item.item-index c.item-item.result _ _ _ c.loop-item-test.true c.item-item.is c.loop-item.invariant c.in_ok-through_item.ensures

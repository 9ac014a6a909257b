use Rattle.block_rules.proofs.Steps.{next_item}
use Rattle.block_rules.proofs.rules.program_breaks.Goals as goal

pub loop-item-preserved : goal.loop-item-preserved
loop-item-preserved c =
    next_item c.args.items.now c.loop-item.item-index c.item-item.result _ _ _ c.loop-item-test.true c.item-item.is c.loop-item.invariant c.item_breaks.ensures

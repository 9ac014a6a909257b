use Rattle.std.proofs.Common.{◌≡◌, drop, map}
use Rattle.bound_tree.specs.Bound.{item_of}
use Rattle.txn_infer.specs.Retry.{items_retry}
use Rattle.txn_infer.proofs.retry.items_retry.Given as goal

abbrev pub invariant-loop-item : goal.invariant-loop-item
invariant-loop-item l = items_retry (map item_of l.items) ≡ items_retry (map item_of (drop l.item-index l.items))

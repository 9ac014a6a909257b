use Rattle.std.proofs.Common.{◌≡◌, drop, map}
use Rattle.bound_tree.specs.Bound.{expr_of}
use Rattle.txn_infer.specs.Retry.{any_retry}
use Rattle.txn_infer.proofs.retry.any_retry.Given as goal

abbrev pub invariant-loop-value : goal.invariant-loop-value
invariant-loop-value l = any_retry (map expr_of l.values) ≡ any_retry (map expr_of (drop l.value-index l.values))

use Rattle.std.proofs.Common.{◌≡◌, drop, map}
use Rattle.bound_tree.specs.Bound.{assignment_of}
use Rattle.txn_infer.specs.Retry.{pairs_retry}
use Rattle.txn_infer.proofs.retry.pairs_retry.Given as goal

abbrev pub invariant-loop-pair : goal.invariant-loop-pair
invariant-loop-pair l = pairs_retry (map assignment_of l.pairs) ≡ pairs_retry (map assignment_of (drop l.pair-index l.pairs))

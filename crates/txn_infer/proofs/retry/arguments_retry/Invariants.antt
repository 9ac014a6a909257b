use Rattle.std.proofs.Common.{◌≡◌, drop, map}
use Rattle.bound_tree.specs.Bound.{argument_of}
use Rattle.txn_infer.specs.Retry.{arguments_retry}
use Rattle.txn_infer.proofs.retry.arguments_retry.Given as goal

abbrev pub invariant-loop-argument : goal.invariant-loop-argument
invariant-loop-argument l = arguments_retry (map argument_of l.arguments) ≡ arguments_retry (map argument_of (drop l.argument-index l.arguments))

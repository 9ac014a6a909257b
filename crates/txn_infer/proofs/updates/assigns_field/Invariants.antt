use Rattle.std.proofs.Common.{◌≡◌, drop, map}
use Rattle.bound_tree.specs.Bound.{assignment_of}
use Rattle.txn_infer.specs.Updates.{assigns_field}
use Rattle.txn_infer.proofs.updates.assigns_field.Given as goal

abbrev pub invariant-loop-pair : goal.invariant-loop-pair
invariant-loop-pair l = assigns_field (map assignment_of l.pairs) ≡ assigns_field (map assignment_of (drop l.pair-index l.pairs))

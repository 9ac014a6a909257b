use Rattle.std.proofs.Common.{◌≡◌, drop, map}
use Rattle.bound_tree.specs.Bound.{assignment_of}
use Rattle.block_meaning.specs.Changes.{buffers_in}
use Rattle.client_values.proofs.assign.are_variables.Given as goal

abbrev pub invariant-loop-pair : goal.invariant-loop-pair
invariant-loop-pair l = buffers_in (map assignment_of l.pairs) ≡ buffers_in (map assignment_of (drop l.pair-index l.pairs))

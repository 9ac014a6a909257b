use Rattle.std.proofs.Common.{◌≡◌, ◌++◌, drop, map}
use Rattle.block_meaning.specs.Changes.{buffers_in}
use Rattle.bound_tree.specs.Bound.{assignment_of}
use Rattle.client_records.specs.Entries.{others}
use Rattle.client_records.proofs.targets.changed_by.Given as goal

-- those so far and those of the other targets
abbrev pub invariant-loop-index : goal.invariant-loop-index
invariant-loop-index l = l.buffers.items ++ others l.buffers.items (buffers_in (drop l.index (map assignment_of l.pairs))) ≡ buffers_in (drop l.from (map assignment_of l.pairs))

use Rattle.std.proofs.Common.{◌≡◌, ◌≤◌, ◌++◌, length, take, map}
use Rattle.std.specs.Prelude.{reverse}
use Rattle.block_meaning.specs.Changes.{buffers_in}
use Rattle.client_machine.specs.Config.{given_of}
use Rattle.client_records.specs.Entries.{others}
use Rattle.client_records.proofs.targets.changed_by_values.Given as goal

-- those so far and those of the other targets
abbrev pub invariant-loop-left : goal.invariant-loop-left
invariant-loop-left l = record {
  within : l.left ≤ length l.values;
  so_far : l.buffers.items ++ others l.buffers.items (buffers_in (map given_of (reverse (take l.left l.values)))) ≡ buffers_in (map given_of (reverse l.values));
}

abbrev pub decreases-loop-left : goal.decreases-loop-left
decreases-loop-left l = l.left

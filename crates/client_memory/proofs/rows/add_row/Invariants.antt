use Rattle.std.proofs.Common.{◌≡◌, ◌≤◌, ◌-◌, ◌++◌, length, take, drop}
use Rattle.block_meaning.specs.Buffers.{with_row}
use Rattle.client_memory.proofs.rows.add_row.Given as goal

abbrev pub invariant-loop-index : goal.invariant-loop-index
invariant-loop-index l = record {
  within : l.index ≤ length l.rows.items;
  before : take l.index l.rows.items ++ with_row l.row (drop l.index l.rows.items) ≡ with_row l.row l.rows.items;
}

abbrev pub decreases-loop-index : goal.decreases-loop-index
decreases-loop-index l = length l.rows.items - l.index

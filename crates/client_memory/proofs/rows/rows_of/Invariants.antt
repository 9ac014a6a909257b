use Rattle.std.proofs.Common.{◌≡◌, ◌≤◌, length, drop}
use Rattle.block_meaning.specs.Buffers.{rows_from}
use Rattle.client_memory.proofs.rows.rows_of.Given as goal

abbrev pub invariant-loop-number : goal.invariant-loop-number
invariant-loop-number l = record {
  within : l.number ≤ length l.buffers;
  rows_are : l.rows.items ≡ rows_from l.number l.but (drop l.number l.buffers);
}

abbrev pub decreases-loop-number : goal.decreases-loop-number
decreases-loop-number l = l.number

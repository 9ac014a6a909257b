use Rattle.std.proofs.Common.{◌≡◌, drop}
use Rattle.block_meaning.specs.Buffers.{is_row_in}
use Rattle.record_rules.proofs.indexes.is_row_in.Given as goal

abbrev pub invariant-loop-other : goal.invariant-loop-other
invariant-loop-other l = is_row_in l.row l.rows ≡ is_row_in l.row (drop l.other-index l.rows)

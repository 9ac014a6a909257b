use Rattle.std.proofs.Common.{◌≡◌, [], take, reverse}
use Rattle.client_memory.specs.Buffers.{rows_inward}
use Rattle.client_memory.proofs.rows.kept_rows.Given as goal

abbrev pub invariant-loop-buffers : goal.invariant-loop-buffers
invariant-loop-buffers l = l.kept.items ≡ rows_inward [] (reverse (take l.buffers-index l.outer))

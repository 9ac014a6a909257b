use Rattle.std.proofs.Common.{◌≡◌, vec_len}
use Rattle.block_meaning.specs.Buffers.{all_rows}
use Rattle.client_memory.proofs.rows.add_rows.Given as goal

abbrev pub invariant-loop-row : goal.invariant-loop-row
invariant-loop-row l = all_rows l.rows.items l.kept.items ≡ all_rows l.initial.rows.items l.initial.kept.items

abbrev pub decreases-loop-row : goal.decreases-loop-row
decreases-loop-row l = vec_len l.rows

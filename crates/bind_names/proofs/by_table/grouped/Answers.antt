use Rattle.std.proofs.Common.{drop, ◌+◌}
use Rattle.bind_names.proofs.ByTables.{next_grouped}
use Rattle.bind_names.proofs.by_table.grouped.Goals as goal

pub loop-buffer-preserved : goal.loop-buffer-preserved
loop-buffer-preserved c =
    c.in_ok-add.ensures c.args.buffers.now (drop (c.loop-buffer.buffer-index + 1) c.args.buffers.now)
    (next_grouped c.args.buffers.now c.loop-buffer.buffer-index c.buffer-item.result c.loop-buffer.groups.items c.loop-buffer-test.true c.buffer-item.is c.loop-buffer.invariant)

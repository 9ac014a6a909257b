use Rattle.std.proofs.Common.{arith}
use Rattle.client_memory.proofs.BufferLists.{blank_step}
use Rattle.client_memory.proofs.records.has_pending.Goals as goal

pub loop-buffers-preserved : goal.loop-buffers-preserved
loop-buffers-preserved c =
    blank_step c.args.frames.now c.loop-buffers.buffers-index c.buffers-item.result c.has_pending.result (omega (arith, c.loop-buffers-test.true)) c.buffers-item.is c.has_pending.ensures c.if-has_pending.false c.loop-buffers.invariant

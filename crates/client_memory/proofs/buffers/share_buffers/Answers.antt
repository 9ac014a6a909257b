use Rattle.std.proofs.Common.{arith}
use Rattle.client_memory.proofs.Denoted.{share_more}
use Rattle.client_memory.proofs.buffers.share_buffers.Goals as goal

pub loop-buffer-preserved : goal.loop-buffer-preserved
loop-buffer-preserved c =
    share_more c.deref_mut-buffer-items.result.now c.loop-buffer.buffer-items c.loop-buffer.buffer-index c.buffer-item.result c.share.new.self (omega (arith, c.loop-buffer-test.true, c.loop-buffer.auto.buffer-items)) (omega (arith, c.loop-buffer-test.true, c.loop-buffer.auto.buffer-items)) c.loop-buffer.invariant c.share.ensures

use Rattle.std.proofs.Common.{◌≡◌, arith, map}
use Rattle.block_meaning.specs.Buffers.{buffer_shared}
use Rattle.client_memory.proofs.BufferLists.{share_frames_more}
use Rattle.client_memory.proofs.records.share_all.Goals as goal

pub loop-buffers-preserved : goal.loop-buffers-preserved
loop-buffers-preserved c =
    let e : c.share.new.self ≡ map buffer_shared c.buffers-item.result = grind (arith, c.share.ensures, c.buffers-item.is) in
    share_frames_more c.deref_mut-buffers-items.result.now c.loop-buffers.buffers-items c.loop-buffers.buffers-index c.buffers-item.result c.share.new.self (omega (arith, c.loop-buffers-test.true, c.loop-buffers.auto.buffers-items)) c.loop-buffers.invariant c.buffers-item.is e

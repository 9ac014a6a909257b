use Rattle.std.proofs.Common.{arith}
use Rattle.client_memory.proofs.Denoted.{restore_more}
use Rattle.client_memory.proofs.buffers.Buffers.restore.Goals as goal

pub loop-content-preserved : goal.loop-content-preserved
loop-content-preserved c =
    restore_more c.loop-content.contents.items c.pop.new.self.items c.in-Some.content c.loop-content.self c.restore_at.new.self _ c.len.result c.in-Some.ensures.items (omega (arith, c.len.ensures, c.pop.new.self.ok.0)) c.restore_at.ensures c.loop-content.invariant

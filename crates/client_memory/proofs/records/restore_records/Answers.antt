use Rattle.std.proofs.Common.{arith}
use Rattle.client_memory.proofs.BufferLists.{restore_frames_more}
use Rattle.client_memory.proofs.records.restore_records.Goals as goal

pub loop-contents-preserved : goal.loop-contents-preserved
loop-contents-preserved c =
    restore_frames_more c.loop-contents.saved.items c.pop.new.self.items c.in-Some.contents c.loop-contents.frames.items c.restore_in.new.frames.items _ c.len.result c.in-Some.ensures.items (omega (arith, c.len.ensures, c.pop.new.self.ok.0)) c.restore_in.ensures c.loop-contents.invariant

use Rattle.std.proofs.Common.{sym, ◌∙◌, arith}
use Rattle.slot_area.proofs.AreaRuns.{below_in, bytes_read}
use Rattle.slot_area.proofs.slot_area.SlotArea.bytes_below.Goals as goal

pub returns-clause-bytes : goal.returns-clause-bytes
returns-clause-bytes g c = λ known.
    bytes_read (g.D.Disk.seen c.args.disk.now 0) c.args.slot c.read.new.into (omega arith) (c.in_ok-read.ensures.bytes known)
    ∙ sym (below_in c.args.self.now.end (g.D.Disk.seen c.args.disk.now 0) c.args.slot (omega arith))

use Rattle.std.proofs.Common.{arith}
use Rattle.bi_recovery.proofs.Carrying.{bytes_read}
use Rattle.checkpoint.proofs.carried.carrying.stored_slot.Goals as goal

pub returns-clause-bytes : goal.returns-clause-bytes
returns-clause-bytes g c = λ known. bytes_read (g.D.Disk.seen c.args.disk.now 0) c.args.slot c.read.new.into (omega arith) (c.in_ok-read.ensures.bytes known)

use Rattle.std.proofs.Common.{arith}
use Rattle.recovered_view.proofs.Loaded.{bytes_read}
use Rattle.recovered_view.proofs.stored.stored_slot.Goals as goal

pub returns-clause-bytes : goal.returns-clause-bytes
returns-clause-bytes g c = λ known. bytes_read (g.D.Disk.seen c.args.disk.now 0) c.args.slot c.read.new.into (omega arith) (c.in_ok-read.ensures.bytes known)

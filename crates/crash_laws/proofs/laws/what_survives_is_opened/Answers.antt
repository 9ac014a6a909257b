-- The image is one of the contents after the acknowledged commits, or after one more; these are sound.
use Rattle.crash_laws.specs.Disks.{view_of}
use Rattle.crash_laws.proofs.Opened.{run_opened}
use Rattle.crash_laws.proofs.laws.what_survives_is_opened.Goals as goal

pub returns : goal.returns
returns g c = λ schema contents run disk sound named durable holds left. run_opened (view_of g.D.Disk) schema sound named contents run disk durable holds left

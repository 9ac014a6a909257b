-- By induction over the commands.
use Rattle.crash_laws.specs.Disks.{view_of}
use Rattle.crash_laws.specs.Logs.{HasShortLog}
use Rattle.crash_laws.proofs.Logs.{all_short}
use Rattle.crash_laws.proofs.laws.the_log_stays_short.Goals as goal

pub returns : goal.returns
returns g c = λ calls last are. all_short (view_of g.D.Disk) (λ disk. HasShortLog (view_of g.D.Disk disk)) (λ disk short. short) calls last are

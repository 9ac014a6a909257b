-- By induction over the runs.
use Rattle.crash_laws.specs.Disks.{view_of}
use Rattle.crash_laws.proofs.Histories.{history_kept}
use Rattle.crash_laws.proofs.laws.nothing_acknowledged_is_lost.Goals as goal

pub returns : goal.returns
returns g c = λ history is. history_kept (view_of g.D.Disk) history is

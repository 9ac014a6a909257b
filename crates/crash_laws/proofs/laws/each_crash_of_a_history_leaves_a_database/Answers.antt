-- By the induction over the calls.
use Rattle.crash_laws.specs.Disks.{view_of}
use Rattle.crash_laws.proofs.Births.{history_born}
use Rattle.crash_laws.proofs.laws.each_crash_of_a_history_leaves_a_database.Goals as goal

pub returns : goal.returns
returns g c = λ history. history_born (view_of g.D.Disk) history

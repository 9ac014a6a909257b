-- The images of a run are born, after some of its commits.
use Rattle.crash_laws.specs.Disks.{view_of}
use Rattle.crash_laws.proofs.Births.{run_born}
use Rattle.crash_laws.proofs.laws.each_crash_leaves_a_database.Goals as goal

pub returns : goal.returns
returns g c = λ schema contents run sound. run_born (view_of g.D.Disk) schema sound contents run

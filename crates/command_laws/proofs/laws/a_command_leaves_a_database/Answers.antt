-- By the laws of crashes, over what the command did.
use Rattle.command_laws.proofs.Databases.{command_leaves}
use Rattle.command_laws.proofs.laws.a_command_leaves_a_database.Goals as goal

pub returns : goal.returns
returns g c = λ df command. command_leaves g.D.Disk (λ disk. g.met.D.Disk.image_known disk) (λ disk. g.met.D.Disk.reads_left disk) df command

-- By the law of crashes of a history, over the calls that the commands are.
use Rattle.command_laws.proofs.Databases.{commands_lose_nothing}
use Rattle.command_laws.proofs.laws.no_command_loses_what_was_acknowledged.Goals as goal

pub returns : goal.returns
returns g c = λ df creation commands last. commands_lose_nothing g.D.Disk (λ disk. g.met.D.Disk.image_known disk) (λ disk. g.met.D.Disk.reads_left disk) df creation commands last

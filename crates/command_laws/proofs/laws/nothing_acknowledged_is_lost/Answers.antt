-- By the law of crashes, over the disks of the commands.
use Rattle.command_laws.proofs.Histories.{commands_kept}
use Rattle.command_laws.proofs.laws.nothing_acknowledged_is_lost.Goals as goal

pub returns : goal.returns
returns g c = λ history is. commands_kept g.D.Disk history is

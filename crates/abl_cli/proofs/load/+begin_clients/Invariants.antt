use Rattle.std.proofs.Common.{length}
use Rattle.abl_cli.proofs.load.+begin_clients.Given as goal

abbrev pub decreases-begin_clients : goal.decreases-begin_clients
decreases-begin_clients g l = length l.codes.items

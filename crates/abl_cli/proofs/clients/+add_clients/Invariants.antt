use Rattle.std.proofs.Common.{length}
use Rattle.abl_cli.proofs.clients.+add_clients.Given as goal

abbrev pub decreases-add_clients : goal.decreases-add_clients
decreases-add_clients l = length l.arguments.now

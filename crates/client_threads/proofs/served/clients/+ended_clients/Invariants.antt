use Rattle.std.proofs.Common.{length}
use Rattle.client_threads.proofs.served.clients.+ended_clients.Given as goal

abbrev pub decreases-ended_clients : goal.decreases-ended_clients
decreases-ended_clients g l = length l.tasks.items

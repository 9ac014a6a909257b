use Rattle.std.proofs.Common.{length}
use Rattle.bank_run.proofs.bank.+begin_clients.Given as goal

abbrev pub decreases-begin_clients : goal.decreases-begin_clients
decreases-begin_clients l = length l.codes.items

use Rattle.std.proofs.Common.{length}
use Rattle.source_files.proofs.files.+read_clients.Given as goal

abbrev pub decreases-read_clients : goal.decreases-read_clients
decreases-read_clients g l = length l.clients.now

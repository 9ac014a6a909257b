use Rattle.std.proofs.Common.{length}
use Rattle.row_keys.proofs.reserved.+lists.Given as goal

abbrev pub decreases-lists : goal.decreases-lists
decreases-lists l = length l.clients.now

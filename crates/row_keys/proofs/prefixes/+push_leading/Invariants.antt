use Rattle.std.proofs.Common.{length}
use Rattle.row_keys.proofs.prefixes.+push_leading.Given as goal

abbrev pub decreases-push_leading : goal.decreases-push_leading
decreases-push_leading l = length l.values.now

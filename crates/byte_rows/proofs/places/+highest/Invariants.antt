use Rattle.std.proofs.Common.{length}
use Rattle.byte_rows.proofs.places.+highest.Given as goal

abbrev pub decreases-highest : goal.decreases-highest
decreases-highest l = length l.slots.now

use Rattle.std.proofs.Common.{length}
use Rattle.abl_cli.proofs.check.+write_listings.Given as goal

abbrev pub decreases-write_listings : goal.decreases-write_listings
decreases-write_listings g l = length l.names.now

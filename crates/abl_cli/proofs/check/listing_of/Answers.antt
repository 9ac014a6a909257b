use Rattle.source_files.specs.Compiled.{source_wants}
use Rattle.abl_cli.proofs.check.listing_of.Goals as goal

pub returns-in-Ok-clause-refused : goal.returns-in-Ok-clause-refused
returns-in-Ok-clause-refused c = source_wants

pub returns-in-Ok-listing-clause-listed : goal.returns-in-Ok-listing-clause-listed
returns-in-Ok-listing-clause-listed c = record { tree = _; denotes = c.in-Ok.ensures.tree; lines_are = c.in-Ok-listing.ensures }

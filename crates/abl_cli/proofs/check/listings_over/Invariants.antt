use Rattle.std.proofs.Common.{take}
use Rattle.abl_cli.specs.Check.{HaveListings}
use Rattle.abl_cli.proofs.check.listings_over.Given as goal

-- the texts so far are listed
abbrev pub invariant-loop-number : goal.invariant-loop-number
invariant-loop-number l = HaveListings l.schema (take l.number l.sources) l.listings.items

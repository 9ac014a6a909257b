use Rattle.std.proofs.Common.{◌≡◌, ◌++◌}
use Rattle.source_reader.specs.listing.Listing.{joined}
use Rattle.source_reader.proofs.listing.text.joined.Given as goal

abbrev pub invariant-loop-number : goal.invariant-loop-number
invariant-loop-number g l = joined (g.L.OwnLines.own_line l.own) l.lines.entries ≡ l.text ++ joined (g.L.OwnLines.own_line l.own) l.number-iterator

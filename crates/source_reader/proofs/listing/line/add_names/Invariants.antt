use Rattle.std.proofs.Common.{◌≡◌, ◌++◌, drop}
use Rattle.std.specs.List.{flat_map}
use Rattle.source_reader.specs.listing.Listing.{named}
use Rattle.source_reader.proofs.listing.line.add_names.Given as goal

abbrev pub invariant-loop-number : goal.invariant-loop-number
invariant-loop-number l = l.initial.text ++ flat_map (named l.buffers) l.scoped ≡ l.text ++ flat_map (named l.buffers) (drop l.number-index l.scoped)

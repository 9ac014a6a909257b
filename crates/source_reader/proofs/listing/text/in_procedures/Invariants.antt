use Rattle.std.proofs.Common.{◌≡◌, drop, map}
use Rattle.bound_tree.specs.Bound.{procedure_of}
use Rattle.source_reader.specs.listing.Listing.{in_procedures}
use Rattle.source_reader.proofs.listing.text.in_procedures.Given as goal

abbrev pub invariant-loop-procedure : goal.invariant-loop-procedure
invariant-loop-procedure l = in_procedures l.initial.lines.entries (map procedure_of l.procedures) ≡ in_procedures l.lines.entries (map procedure_of (drop l.procedure-index l.procedures))

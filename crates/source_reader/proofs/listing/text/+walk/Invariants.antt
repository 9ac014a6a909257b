use Rattle.std.proofs.Common.{◌≡◌, drop}
use Rattle.bound_tree.specs.Bound.{body_of}
use Rattle.source_reader.specs.listing.Listing.{in_body}
use Rattle.source_reader.proofs.listing.text.+walk.Given as goal

abbrev pub invariant-in_body-loop-stmt : goal.invariant-in_body-loop-stmt
invariant-in_body-loop-stmt l = in_body l.buffers l.initial.lines.entries (body_of l.body) ≡ in_body l.buffers l.lines.entries (body_of (drop l.stmt-index l.body))

use Rattle.std.proofs.Common.{◌≡◌, ◌+◌, drop}
use Rattle.schema_reader.specs.InOrder.{place_of}
use Rattle.schema_reader.proofs.meaning.place_of.Given as goal

abbrev pub invariant-loop-place : goal.invariant-loop-place
invariant-loop-place l = l.place + place_of l.order (drop l.place l.fields) ≡ place_of l.order l.fields

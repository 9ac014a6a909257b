use Rattle.std.proofs.Common.{◌≡◌, ◌-◌, ◌^◌, take, min}
use Rattle.std.specs.Prelude.{sum}
use Rattle.schema_reader.proofs.sizes.total.Given as goal

abbrev pub invariant-loop-part : goal.invariant-loop-part
invariant-loop-part l = l.bytes ≡ min (sum (take l.part-index l.parts)) (2 ^ 64 - 1)

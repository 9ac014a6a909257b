use Rattle.std.proofs.Common.{◌≡◌, ◌+◌, ◌-◌, ◌^◌, take, length, min}
use Rattle.std.specs.Prelude.{sum_by}
use Rattle.schema_reader.specs.Census.{line_bytes}
use Rattle.schema_reader.proofs.sizes.index_bytes.Given as goal

abbrev pub invariant-loop-line : goal.invariant-loop-line
invariant-loop-line l =
    l.bytes ≡ min (length l.name + 7 + sum_by (λ a. line_bytes l.table.fields a.attribute) (take l.line-index l.attributes)) (2 ^ 64 - 1)

use Rattle.std.proofs.Common.{◌≡◌, drop}
use Rattle.block_meaning.specs.Buffers.{missing_field}
use Rattle.record_rules.proofs.stored.missing_field.Given as goal

abbrev pub invariant-loop-number : goal.invariant-loop-number
invariant-loop-number l = missing_field 0 l.fields l.values ≡ missing_field l.number (drop l.number l.fields) (drop l.number l.values)

use Rattle.std.proofs.Common.{◌≡◌, ◌≤◌, ◌+◌, drop, length}
use Rattle.abl_base.specs.declared.limits.TheConstants.{MAX_ROW_BYTES}
use Rattle.abl_values.specs.Rows.{bytes_of_row}
use Rattle.record_rules.proofs.stored.is_too_long.Given as goal

-- the bytes of the values so far, which are not too many
abbrev pub invariant-loop-value : goal.invariant-loop-value
invariant-loop-value l = (l.bytes ≤ MAX_ROW_BYTES) × (l.bytes + length (bytes_of_row (drop l.value-index l.values)) ≡ length (bytes_of_row l.values))

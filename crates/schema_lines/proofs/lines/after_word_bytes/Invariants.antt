use Rattle.std.proofs.Common.{◌≡◌, ◌≤◌, length}
use Rattle.abl_values.specs.Masks.{after_run}
use Rattle.schema_lines.specs.Lines.{is_word_byte}
use Rattle.schema_lines.proofs.lines.after_word_bytes.Given as goal

abbrev pub invariant-loop-rest : goal.invariant-loop-rest
invariant-loop-rest l = (after_run is_word_byte l.rest ≡ after_run is_word_byte l.line) × (length l.rest ≤ length l.line)

abbrev pub decreases-loop-rest : goal.decreases-loop-rest
decreases-loop-rest l = length l.rest

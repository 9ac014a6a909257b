use Rattle.std.proofs.Common.{◌≡◌, false, length}
use Rattle.schema_lines.specs.Lines.{inside}
use Rattle.schema_lines.proofs.Quotes.{onto}
use Rattle.schema_lines.proofs.lines.bytes_inside.Given as goal

abbrev pub invariant-loop-rest : goal.invariant-loop-rest
invariant-loop-rest l = onto l.text (inside l.marked l.rest) ≡ inside false l.bytes

abbrev pub decreases-loop-rest : goal.decreases-loop-rest
decreases-loop-rest l = length l.rest

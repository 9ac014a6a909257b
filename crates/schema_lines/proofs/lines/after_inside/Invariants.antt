use Rattle.std.proofs.Common.{◌≡◌, false, length}
use Rattle.schema_lines.specs.Lines.{inside}
use Rattle.schema_lines.proofs.Quotes.{rest_of}
use Rattle.schema_lines.proofs.lines.after_inside.Given as goal

abbrev pub invariant-loop-rest : goal.invariant-loop-rest
invariant-loop-rest l = rest_of (inside l.marked l.rest) ≡ rest_of (inside false l.bytes)

abbrev pub decreases-loop-rest : goal.decreases-loop-rest
decreases-loop-rest l = length l.rest

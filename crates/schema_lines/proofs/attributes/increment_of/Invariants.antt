use Rattle.std.proofs.Common.{◌≡◌, take}
use Rattle.schema_lines.specs.Attributes.{increment_of}
use Rattle.schema_lines.proofs.attributes.increment_of.Given as goal

abbrev pub invariant-loop-line : goal.invariant-loop-line
invariant-loop-line l = l.increment ≡ increment_of (take l.line-index l.attributes)

use Rattle.std.proofs.Common.{◌≡◌, Some, take}
use Rattle.schema_lines.specs.Attributes.{initial_of}
use Rattle.schema_lines.proofs.attributes.initial_of.Given as goal

abbrev pub invariant-loop-line : goal.invariant-loop-line
invariant-loop-line l = l.value ≡ initial_of (Some l.kind) l.mask (take l.line-index l.attributes)

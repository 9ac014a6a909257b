use Rattle.std.proofs.Common.{◌≡◌, take}
use Rattle.schema_lines.specs.Attributes.{format_of}
use Rattle.schema_lines.proofs.attributes.format_of.Given as goal

abbrev pub invariant-loop-line : goal.invariant-loop-line
invariant-loop-line l = l.format ≡ format_of (take l.line-index l.attributes)

use Rattle.std.proofs.Common.{◌≡◌, take}
use Rattle.schema_lines.specs.Attributes.{start_of}
use Rattle.schema_lines.proofs.attributes.start_of.Given as goal

abbrev pub invariant-loop-line : goal.invariant-loop-line
invariant-loop-line l = l.start ≡ start_of (take l.line-index l.attributes)

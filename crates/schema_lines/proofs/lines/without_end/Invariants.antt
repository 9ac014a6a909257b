use Rattle.std.proofs.Common.{◌≡◌, ◌≤◌, length, take}
use Rattle.schema_lines.specs.Lines.{without_end}
use Rattle.schema_lines.proofs.lines.without_end.Given as goal

abbrev pub invariant-loop-end : goal.invariant-loop-end
invariant-loop-end l = (l.end ≤ length l.line) × (without_end (take l.end l.line) ≡ without_end l.line)

abbrev pub decreases-loop-end : goal.decreases-loop-end
decreases-loop-end l = l.end

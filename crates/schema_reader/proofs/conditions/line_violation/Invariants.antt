use Rattle.std.proofs.Common.{◌≡◌, drop}
use Rattle.schema_reader.specs.Census.{line_violation_in}
use Rattle.schema_reader.proofs.conditions.line_violation.Given as goal

abbrev pub invariant-loop-line : goal.invariant-loop-line
invariant-loop-line l =
    line_violation_in l.census l.item (drop l.line-index l.item.attributes) ≡ line_violation_in l.census l.item l.item.attributes

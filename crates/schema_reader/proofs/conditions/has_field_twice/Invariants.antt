use Rattle.std.proofs.Common.{◌≡◌, length}
use Rattle.schema_reader.specs.Census.{names_twice}
use Rattle.schema_reader.proofs.conditions.has_field_twice.Given as goal

abbrev pub invariant-loop-lines : goal.invariant-loop-lines
invariant-loop-lines l = names_twice l.lines ≡ names_twice l.attributes

abbrev pub decreases-loop-lines : goal.decreases-loop-lines
decreases-loop-lines l = length l.lines

use Rattle.std.proofs.Common.{◌≡◌, ◌+◌, drop}
use Rattle.value_formats.specs.Imports.{values_from}
use Rattle.value_formats.proofs.Taken.{with_front}
use Rattle.value_formats.proofs.import.values.Given as goal

-- the values so far and those of the elements to come are those of the line
abbrev pub invariant-loop-i : goal.invariant-loop-i
invariant-loop-i l =
    with_front l.values.items (values_from (l.i + 1) (drop l.i l.kinds) (drop l.i l.elements)) ≡ values_from 1 l.kinds l.elements

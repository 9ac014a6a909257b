use Rattle.std.proofs.Common.{◌≡◌, ◌≤◌, ◌++◌, length}
use Rattle.value_formats.specs.Lines.{readings}
use Rattle.value_formats.proofs.line.first_line.Given as goal

-- the elements so far and those to come are those of the line
abbrev pub invariant-loop-rest : goal.invariant-loop-rest
invariant-loop-rest l = record {
  elements : l.elements.items ++ (readings l.rest).between.elements ≡ (readings l.input).between.elements;
  tail : (readings l.rest).between.rest ≡ (readings l.input).between.rest;
  shorter : length l.rest ≤ length l.input;
}

abbrev pub decreases-loop-rest : goal.decreases-loop-rest
decreases-loop-rest l = length l.rest

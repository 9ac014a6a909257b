use Rattle.std.proofs.Common.{◌≡◌, ◌<◌, ◌⊎◌, ◌++◌, length}
use Rattle.value_formats.specs.Lines.{readings}
use Rattle.value_formats.proofs.line.bare.Given as goal

-- the bytes so far and those to come are those of the element
abbrev pub invariant-loop-rest : goal.invariant-loop-rest
invariant-loop-rest l = record {
  word : l.word.items ++ (readings l.rest).in_bare.open_bytes ≡ (readings l.bytes).in_bare.open_bytes;
  elements : (readings l.rest).in_bare.elements ≡ (readings l.bytes).in_bare.elements;
  tail : (readings l.rest).in_bare.rest ≡ (readings l.bytes).in_bare.rest;
  moved : (l.rest ≡ l.bytes) ⊎ (length l.rest < length l.bytes);
}

abbrev pub decreases-loop-rest : goal.decreases-loop-rest
decreases-loop-rest l = length l.rest

use Rattle.std.proofs.Common.{◌≡◌, ◌≤◌, ◌++◌, length}
use Rattle.value_formats.specs.Lines.{readings}
use Rattle.value_formats.proofs.line.quoted.Given as goal

-- the bytes so far and those to come are those of the element
abbrev pub invariant-loop-rest : goal.invariant-loop-rest
invariant-loop-rest l = record {
  text : l.text.items ++ (readings l.rest).in_quotes.open_bytes ≡ (readings l.bytes).in_quotes.open_bytes;
  elements : (readings l.rest).in_quotes.elements ≡ (readings l.bytes).in_quotes.elements;
  tail : (readings l.rest).in_quotes.rest ≡ (readings l.bytes).in_quotes.rest;
  shorter : length l.rest ≤ length l.bytes;
}

abbrev pub decreases-loop-rest : goal.decreases-loop-rest
decreases-loop-rest l = length l.rest

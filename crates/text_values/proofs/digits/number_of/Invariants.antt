use Rattle.std.proofs.Common.{◌≡◌, ◌<◌, ◌^◌, take}
use Rattle.abl_values.specs.Digits.{number_of}
use Rattle.text_values.proofs.digits.number_of.Given as goal

abbrev pub invariant-loop-byte : goal.invariant-loop-byte
invariant-loop-byte l = record {
  so_far : l.n ≡ number_of (take l.byte-index l.digits);
  fits : l.n < 2 ^ 128;
}

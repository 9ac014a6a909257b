use Rattle.std.proofs.Common.{◌≡◌, ◌≤◌, ◌+◌, ◌*◌, ◌^◌, take}
use Rattle.abl_values.specs.Digits.{number_of}
use Rattle.text_values.proofs.digits.small_number_of.Given as goal

-- each byte is worth at most 207
abbrev pub invariant-loop-byte : goal.invariant-loop-byte
invariant-loop-byte l = record {
  so_far : l.n ≡ number_of (take l.byte-index l.digits);
  small : l.n + 23 ≤ 23 * 10 ^ l.byte-index;
}

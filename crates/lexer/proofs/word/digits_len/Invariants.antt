use Rattle.std.proofs.Common.{◌≡◌, ◌≤◌, ◌+◌, ◌-◌, length, drop}
use Rattle.std.specs.List.{prefix_len}
use Rattle.lexer.specs.Bytes.{is_digit}
use Rattle.lexer.proofs.word.digits_len.Given as goal

abbrev pub invariant-loop-i : goal.invariant-loop-i
invariant-loop-i l = record { so_far : prefix_len is_digit l.rest ≡ l.i + prefix_len is_digit (drop l.i l.rest); within : l.i ≤ length l.rest }

abbrev pub decreases-loop-i : goal.decreases-loop-i
decreases-loop-i l = length l.rest - l.i

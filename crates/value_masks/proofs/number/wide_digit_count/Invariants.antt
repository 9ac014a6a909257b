use Rattle.std.proofs.Common.{◌≡◌, ◌+◌, ◌≤◌}
use Rattle.value_masks.specs.Put.{digit_count}
use Rattle.value_masks.proofs.number.wide_digit_count.Given as goal

abbrev pub invariant-loop-rest : goal.invariant-loop-rest
invariant-loop-rest l = record { counted : l.count + digit_count l.rest ≡ digit_count l.n; within : l.rest ≤ l.n }

abbrev pub decreases-loop-rest : goal.decreases-loop-rest
decreases-loop-rest l = l.rest

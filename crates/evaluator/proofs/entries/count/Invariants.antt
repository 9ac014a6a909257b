use Rattle.std.proofs.Common.{◌≡◌, ◌+◌, ◌≤◌, length}
use Rattle.expression_meaning.specs.Functions.{parts_after}
use Rattle.evaluator.proofs.entries.count.Given as goal

abbrev pub invariant-loop-after : goal.invariant-loop-after
invariant-loop-after l =
    (l.entries + length (parts_after l.delimiter 0 l.rest) ≡ 1 + length (parts_after l.delimiter 0 l.list)) × (l.entries + length l.rest ≤ 1 + length l.list)

abbrev pub decreases-loop-after : goal.decreases-loop-after
decreases-loop-after l = length l.rest

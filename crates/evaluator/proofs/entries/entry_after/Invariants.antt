use Rattle.std.proofs.Common.{◌≡◌}
use Rattle.expression_meaning.specs.Functions.{parts_after}
use Rattle.evaluator.specs.Parts.{part_from}
use Rattle.evaluator.proofs.entries.entry_after.Given as goal

abbrev pub invariant-loop-left : goal.invariant-loop-left
invariant-loop-left l =
    part_from (parts_after l.delimiter 0 l.list) l.others ≡ part_from (parts_after l.delimiter 0 l.rest) l.left

abbrev pub decreases-loop-left : goal.decreases-loop-left
decreases-loop-left l = l.left

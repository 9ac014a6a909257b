use Rattle.std.proofs.Common.{◌≡◌, ◌≤◌, length, take}
use Rattle.abl_values.specs.Order.{without_trailing}
use Rattle.evaluator.proofs.texts.trimmed.Given as goal

abbrev pub invariant-loop-end : goal.invariant-loop-end
invariant-loop-end l =
    (l.end ≤ length l.text) × (without_trailing 32 (take l.end l.text) ≡ without_trailing 32 l.text)

abbrev pub decreases-loop-end : goal.decreases-loop-end
decreases-loop-end l = l.end

use Rattle.std.proofs.Common.{◌≡◌, ℕ, ◌<◌, false, drop}
use Rattle.expression_meaning.specs.Operators.{begins_with}
use Rattle.evaluator.proofs.entries.split_first.Given as goal

abbrev pub invariant-loop-end : goal.invariant-loop-end
invariant-loop-end l = (k : ℕ) → k < l.end → begins_with (drop k l.list) l.delimiter ≡ false

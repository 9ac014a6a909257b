use Rattle.std.proofs.Common.{ℕ, ◌≡◌, ◌<◌, false}
use Rattle.parser.specs.Grammar.{rule}
use Rattle.parser.specs.Table.{vanishes_as}
use Rattle.parser.proofs.choice.vanishing.Given as goal

abbrev pub invariant-loop-r : goal.invariant-loop-r
invariant-loop-r l = (q : ℕ) → q < l.r → vanishes_as l.nonterminal (rule q) ≡ false

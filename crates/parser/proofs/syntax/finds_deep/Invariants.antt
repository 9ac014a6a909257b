use Rattle.std.proofs.Common.{◌≡◌, drop}
use Rattle.parser.specs.Grammar.{any_deep}
use Rattle.parser.proofs.syntax.finds_deep.Given as goal

abbrev pub invariant-loop-opening : goal.invariant-loop-opening
invariant-loop-opening l = any_deep l.openings ≡ any_deep (drop l.opening-index l.openings)

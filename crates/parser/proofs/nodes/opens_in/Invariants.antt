use Rattle.std.proofs.Common.{◌≡◌, ◌≤◌, ◌+◌, drop}
use Rattle.parser.specs.Closing.{opens_in}
use Rattle.parser.proofs.nodes.opens_in.Given as goal

abbrev pub invariant-loop-symbol : goal.invariant-loop-symbol
invariant-loop-symbol l = (l.nonterminals ≤ l.symbol-index) × (opens_in l.symbols ≡ l.nonterminals + opens_in (drop l.symbol-index l.symbols))

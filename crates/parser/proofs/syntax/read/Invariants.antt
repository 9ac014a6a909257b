use Rattle.parser.specs.Grammar.{kinds}
use Rattle.parser.proofs.Places.{At}
use Rattle.parser.proofs.syntax.read.Given as goal

abbrev pub invariant-loop-at : goal.invariant-loop-at
invariant-loop-at l = At (kinds l.tokens) l.at l.stack l.used.items

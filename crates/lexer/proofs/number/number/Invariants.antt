use Rattle.lexer.proofs.Values.{NumberSofar}
use Rattle.lexer.proofs.number.number.Given as goal

abbrev pub invariant-loop-b : goal.invariant-loop-b
invariant-loop-b l = NumberSofar l.digits l.b-index l.n

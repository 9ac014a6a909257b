use Rattle.lexer.proofs.Places.{PlaceSofar}
use Rattle.lexer.proofs.place.moved.Given as goal

abbrev pub invariant-loop-i : goal.invariant-loop-i
invariant-loop-i l = PlaceSofar l.text l.i l.line l.column

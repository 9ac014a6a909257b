use Rattle.std.proofs.Common.{◌≡◌, length, ◌-◌}
use Rattle.lexer.specs.Texts.{place_of}
use Rattle.lexer.proofs.Runs.{LexSofar}
use Rattle.lexer.proofs.source.lex.Given as goal

abbrev pub invariant-loop-rule : goal.invariant-loop-rule
invariant-loop-rule l = record { run : LexSofar l.text l.at l.list.items; known : l.place ≡ place_of l.text l.at }

abbrev pub decreases-loop-rule : goal.decreases-loop-rule
decreases-loop-rule l = length l.text - l.at

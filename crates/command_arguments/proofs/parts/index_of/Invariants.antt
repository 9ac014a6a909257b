use Rattle.std.proofs.Common.{◌≢◌, take}
use Rattle.std.specs.Prelude.{All}
use Rattle.command_arguments.proofs.parts.index_of.Given as goal

abbrev pub invariant-loop-at : goal.invariant-loop-at
invariant-loop-at l = All (λ byte. byte ≢ l.sought) (take l.at l.text)

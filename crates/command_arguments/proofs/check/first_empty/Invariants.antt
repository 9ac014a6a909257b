use Rattle.std.proofs.Common.{◌<◌, take, length}
use Rattle.std.specs.Prelude.{All}
use Rattle.command_arguments.proofs.check.first_empty.Given as goal

-- no name so far is empty
abbrev pub invariant-loop-at : goal.invariant-loop-at
invariant-loop-at l = All (λ name. 0 < length name) (take l.at l.names)

use Rattle.std.proofs.Common.{◌≡◌, ◌≢◌, All, List, map, take}
use Rattle.command_arguments.specs.CommandLine.{ClientFiles, IsClientFiles, client_argument}
use Rattle.command_arguments.proofs.run.is_new.Given as goal

-- no client so far has the name
abbrev pub invariant-loop-arg : goal.invariant-loop-arg
invariant-loop-arg l = (cs : List ClientFiles) → l.clients ≡ map client_argument cs → All IsClientFiles cs → All (λ (c : ClientFiles). c.name ≢ l.name) (take l.arg-index cs)

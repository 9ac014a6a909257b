use Rattle.std.proofs.Common.{take}
use Rattle.command_arguments.specs.CommandLine.{AreClients}
use Rattle.command_arguments.proofs.run.first_wrong.Given as goal

-- the arguments so far are those of clients
abbrev pub invariant-loop-at : goal.invariant-loop-at
invariant-loop-at l = AreClients (take l.at l.arguments)

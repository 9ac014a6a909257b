use Rattle.std.proofs.Common.{take}
use Rattle.command_arguments.specs.Places.{FitAll, form}
use Rattle.command_arguments.proofs.run.first_misfit.Given as goal

-- the arguments so far fit their places
abbrev pub invariant-loop-place : goal.invariant-loop-place
invariant-loop-place l = FitAll form (take l.place l.arguments)

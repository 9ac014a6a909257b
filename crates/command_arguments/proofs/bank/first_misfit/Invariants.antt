use Rattle.std.proofs.Common.{take}
use Rattle.command_arguments.specs.Places.{FitBank, bank_form}
use Rattle.command_arguments.proofs.bank.first_misfit.Given as goal

-- the arguments so far fit their places
abbrev pub invariant-loop-place : goal.invariant-loop-place
invariant-loop-place l = FitBank bank_form (take l.place l.arguments)

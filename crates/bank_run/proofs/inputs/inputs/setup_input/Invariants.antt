use Rattle.std.proofs.Common.{◌≡◌}
use Rattle.bank_run.specs.inputs.Bank.{setup_input}
use Rattle.bank_run.proofs.inputs.inputs.setup_input.Given as goal

-- the lines of the accounts so far
abbrev pub invariant-loop-before : goal.invariant-loop-before
invariant-loop-before l = l.text ≡ setup_input l.before

use Rattle.std.proofs.Common.{◌≡◌, ◌<◌}
use Rattle.bank_run.specs.inputs.Bank.{lines_for, state_before}
use Rattle.bank_run.proofs.inputs.inputs.client_input.Given as goal

-- the lines of the transfers so far, and the state before the next one
abbrev pub invariant-loop-number : goal.invariant-loop-number
invariant-loop-number l = (l.text ≡ lines_for l.fn.bank l.fn.client l.number) × ((l.draws.state ≡ state_before l.fn.bank.start l.number) × (l.draws.state < 2147483648))

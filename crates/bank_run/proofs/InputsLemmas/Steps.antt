-- One transfer more.
use Rattle.std.proofs.Common.{◌≡◌, ℕ, ◌+◌, ◌%◌, ◌==◌, if◌then◌else◌, List, [], ◌++◌, sym, ◌∙◌, ap, add-one}
use Rattle.bank_run.specs.inputs.Bank.{advanced, lines_for, state_before, transfer_from, transfer_line}
use Rattle.bank_run.specs.declared.inputs.bank.Bank.{Bank}
use Rattle.bank_run.specs.declared.inputs.transfer.Transfer.{Transfer}

pub lines_step : (bank : Bank) (k n s : ℕ) (before after : List ℕ) (t : Transfer) → before ≡ lines_for bank k n → s ≡ state_before bank.start n →
    t ≡ transfer_from bank.accounts s → after ≡ before ++ (if n % bank.clients == k then transfer_line t else []) → after ≡ lines_for bank k (n + 1)
lines_step bank k n s before after t lines state transfer written =
    ((written ∙ ap (λ ls. ls ++ (if n % bank.clients == k then transfer_line t else [])) lines)
    ∙ ap (λ x. lines_for bank k n ++ (if n % bank.clients == k then transfer_line x else [])) (transfer ∙ ap (transfer_from bank.accounts) state))
    ∙ ap (lines_for bank k) (sym (add-one n))

pub state_step : (start n s after : ℕ) → s ≡ state_before start n → after ≡ advanced (advanced (advanced s)) → after ≡ state_before start (n + 1)
state_step start n s after state drawn = (drawn ∙ ap (λ x. advanced (advanced (advanced x))) state) ∙ ap (state_before start) (sym (add-one n))

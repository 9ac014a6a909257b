-- What the accounts of a bank hold after its transfers, in whatever order they are made.
use Rattle.std.specs.Prelude.{ℕ, zero, suc, ◌+◌, ◌==◌, if◌then◌else◌, ℤ, pos, ◌+ℤ◌, ◌-ℤ◌, ◌*ℤ◌}
use Rattle.bank_run.specs.declared.inputs.bank.Bank.{Bank}
use Rattle.bank_run.specs.declared.inputs.transfer.Transfer.{Transfer}
use Rattle.bank_run.specs.inputs.Bank.{transfer_of}

-- the balance of account n after a transfer
abbrev pub moved : Transfer → ℕ → ℤ → ℤ
moved t n before = if t.from == n then before -ℤ pos t.amount else (if t.to == n then before +ℤ pos t.amount else before)

-- the balance of account n after the first t transfers: 1,000 at first
abbrev pub balance_after : Bank → ℕ → ℕ → ℤ
balance_after bank zero n = pos 1000
balance_after bank (suc t) n = moved (transfer_of bank t) n (balance_after bank t n)

-- the sum over the accounts 1 to n
abbrev pub sum_to : (ℕ → ℤ) → ℕ → ℤ
sum_to f zero = pos 0
sum_to f (suc n) = sum_to f n +ℤ f (n + 1)

-- the sum of the balances after all transfers
abbrev pub total : Bank → ℤ
total bank = sum_to (balance_after bank bank.transfers) bank.accounts

-- and that of each balance times the number of its account
abbrev pub weighted : Bank → ℤ
weighted bank = sum_to (λ n. pos n *ℤ balance_after bank bank.transfers n) bank.accounts

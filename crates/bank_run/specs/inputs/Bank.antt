-- The bank: its draws, its transfers, and the inputs of its clients.
use Rattle.std.specs.Prelude.{ℕ, zero, suc, ◌+◌, ◌-◌, ◌*◌, ◌/◌, ◌%◌, ◌==◌, nat_lt, if◌then◌else◌, List, [], ◌++◌, codes, decimal}
use Rattle.bank_run.specs.declared.inputs.bank.Bank.{Bank}
use Rattle.bank_run.specs.declared.inputs.transfer.Transfer.{Transfer}

-- ---- the draws

-- the state of the generator after one more draw
abbrev pub advanced : ℕ → ℕ
advanced x = (x * 1103515245 + 12345) % 2147483648

-- the value of the draw that led to this state
abbrev pub drawn : ℕ → ℕ
drawn x = x / 65536

-- ---- the transfers

-- the account of this number among all others than one
abbrev pub other_account : ℕ → ℕ → ℕ
other_account one n = if nat_lt n one then n else n + 1

-- the transfer of three draws, by the states after them
abbrev pub transfer_of_states : ℕ → ℕ → ℕ → ℕ → Transfer
transfer_of_states accounts x y z = record {
  from = drawn x % accounts + 1;
  to = other_account (drawn x % accounts + 1) (drawn y % (accounts - 1) + 1);
  amount = drawn z % 100 + 1;
}

-- the transfer that the next three draws from x make
abbrev pub transfer_from : ℕ → ℕ → Transfer
transfer_from accounts x = transfer_of_states accounts (advanced x) (advanced (advanced x)) (advanced (advanced (advanced x)))

-- the state before transfer t, from 0: each takes three draws
abbrev pub state_before : ℕ → ℕ → ℕ
state_before start zero = start
state_before start (suc t) = advanced (advanced (advanced (state_before start t)))

-- transfer t
abbrev pub transfer_of : Bank → ℕ → Transfer
transfer_of bank t = transfer_from bank.accounts (state_before bank.start t)

-- ---- the inputs

-- the line of a transfer
abbrev pub transfer_line : Transfer → List ℕ
transfer_line t = decimal t.from ++ (codes " " ++ (decimal t.to ++ (codes " " ++ (decimal t.amount ++ codes "\n"))))

-- the line of transfer t in the input of client k, from 0: the clients have the transfers by turns
abbrev pub line_for : Bank → ℕ → ℕ → List ℕ
line_for bank k t = if t % bank.clients == k then transfer_line (transfer_of bank t) else []

-- the lines of client k among the first n transfers
abbrev pub lines_for : Bank → ℕ → ℕ → List ℕ
lines_for bank k zero = []
lines_for bank k (suc n) = lines_for bank k n ++ line_for bank k n

-- the input of client k
abbrev pub client_input : Bank → ℕ → List ℕ
client_input bank k = lines_for bank k bank.transfers

-- the line of an account
abbrev pub account_line : ℕ → List ℕ
account_line n = decimal n ++ codes " 1000\n"

-- the input of the client that opens the accounts 1 to n
abbrev pub setup_input : ℕ → List ℕ
setup_input zero = []
setup_input (suc n) = setup_input n ++ account_line (n + 1)

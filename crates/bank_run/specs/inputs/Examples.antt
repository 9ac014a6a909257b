-- Worked rows, each computed from the definitions.
use Rattle.std.specs.Prelude.{◌≡◌, refl, ℕ, [], ◌∷◌, List, map, pos, codes}
use Rattle.std.specs.Fmt.{digits}
use Rattle.bank_run.specs.declared.inputs.bank.Bank.{Bank}
use Rattle.bank_run.specs.inputs.Bank.{advanced, client_input, drawn, setup_input}
use Rattle.bank_run.specs.inputs.Total.{total, weighted}

abbrev pub bank_of : ℕ → ℕ → ℕ → ℕ → Bank
bank_of start clients accounts transfers = record { start = start; clients = clients; accounts = accounts; transfers = transfers }

-- the first three draws after 1
first_draws : drawn (advanced 1) ∷ drawn (advanced (advanced 1)) ∷ drawn (advanced (advanced (advanced 1))) ∷ [] ≡ 16838 ∷ 5758 ∷ 10113 ∷ []
first_draws = refl

-- one transfer between ten accounts
one_total : total (bank_of 1 1 10 1) ≡ pos 10000
one_total = refl

one_weighted : weighted (bank_of 1 1 10 1) ≡ pos 54986
one_weighted = refl

one_input : client_input (bank_of 1 1 10 1) 0 ≡ codes "9 8 14\n"
unfolding digits
one_input = refl

-- two transfers
two_total : total (bank_of 1 2 10 2) ≡ pos 10000
two_total = refl

two_weighted : weighted (bank_of 1 2 10 2) ≡ pos 54874
two_weighted = refl

-- two accounts that are set up
two_accounts : setup_input 2 ≡ codes "1 1000\n2 1000\n"
unfolding digits
two_accounts = refl

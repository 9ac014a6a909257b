-- The clients of a bank: their names, sources and inputs, in order.
use Rattle.std.specs.Prelude.{◌+◌, ◌≤◌, ◌<◌, ℕ, zero, suc, List, [], ◌∷◌, ◌++◌, codes, decimal}
use Rattle.bank_run.specs.declared.inputs.bank.Bank.{Bank}
use Rattle.bank_run.specs.declared.inputs.sources.TheConstants.{SETUP_SOURCE, TOTAL_SOURCE, TRANSFER_SOURCE}
use Rattle.bank_run.specs.inputs.Bank.{client_input, setup_input}
use Rattle.source_files.specs.declared.files.ClientTexts.{ClientTexts}
use Rattle.source_files.specs.Expansions.{alone}

-- each number of the bank is within its bounds
pub record IsBank (bank : Bank) : Type 0 where
  pub start : bank.start < 2147483648
  pub some : 1 ≤ bank.clients
  pub few : bank.clients ≤ 8
  pub accounts : 2 ≤ bank.accounts
  pub few_accounts : bank.accounts ≤ 10000

-- a source, which is no file and needs none, with its input
abbrev pub with_input : List ℕ → List ℕ → ClientTexts
with_input source input = record { source = alone source; input = input }

-- the first n clients that make transfers
abbrev pub transfer_texts : Bank → ℕ → List ClientTexts
transfer_texts bank zero = []
transfer_texts bank (suc n) = transfer_texts bank n ++ with_input TRANSFER_SOURCE.now (client_input bank n) ∷ []

-- the client that sets up the accounts, those that make transfers, and the one that adds up
abbrev pub bank_texts : Bank → List ClientTexts
bank_texts bank =
    (with_input SETUP_SOURCE.now (setup_input bank.accounts) ∷ transfer_texts bank bank.clients) ++ with_input TOTAL_SOURCE.now [] ∷ []

-- the name of the client with this many others before it
abbrev pub client_name : ℕ → List ℕ
client_name before = codes "c" ++ decimal (before + 1)

-- the names of the first n clients that make transfers
abbrev pub transfer_names : ℕ → List (List ℕ)
transfer_names zero = []
transfer_names (suc n) = transfer_names n ++ client_name n ∷ []

-- the names of all clients: `setup`, `c1` to `cN`, `total`
abbrev pub bank_names : ℕ → List (List ℕ)
bank_names clients = (codes "setup" ∷ transfer_names clients) ++ codes "total" ∷ []

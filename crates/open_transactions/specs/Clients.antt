-- What the transactions of the clients mean.
use Rattle.std.specs.Prelude.{◌≡◌, ◌≢◌, ℕ, zero, suc, ◌+◌, true, false, List, [], ◌∷◌, ◌++◌, take, drop, Option, None}
use Rattle.std.specs.List.{flat_map}
use Rattle.storage.specs.declared.slots.Undo.{Undo}
use Rattle.storage.specs.Slots.{Transaction, wrote}
use Rattle.open_transactions.specs.declared.client.Client.{Client}
use Rattle.open_transactions.specs.Written.{has_written}

-- this part of the client of that number
abbrev pub of_client : {A : Type 0} → A → (Client → A) → List Client → ℕ → A
of_client none part [] k = none
of_client none part (c ∷ cs) zero = part c
of_client none part (c ∷ cs) (suc k) = of_client none part cs k

-- the transaction that a client's fields mean
abbrev pub transaction_of : Client → Transaction
transaction_of c = record { begun = c.begun; undo = take c.standing c.undo.items; written = has_written c.written.items; counted = c.counted; low = c.low; room = c.spare }

-- no transaction
abbrev pub idle : Transaction
idle = record { begun = false; undo = []; written = has_written []; counted = 0; low = 0; room = 0 }

abbrev pub transaction_in : List Client → ℕ → Transaction
transaction_in clients = of_client idle transaction_of clients

-- the number under which the log may have writes of it
abbrev pub number_in : List Client → ℕ → Option ℕ
number_in clients = of_client None (λ c. c.number) clients

-- the writes of a client that the slots still have, in the order of writing: those that stand, and those that are due
abbrev pub list_of : Client → List Undo
list_of c = c.undo.items

abbrev pub list_in : List Client → ℕ → List Undo
list_in clients = of_client [] list_of clients

-- the writes that are due: the transaction went back behind them or was abandoned, and the slots still have them
abbrev pub due_of : Client → List Undo
due_of c = drop c.standing c.undo.items

abbrev pub due_in : List Client → ℕ → List Undo
due_in clients = of_client [] due_of clients

-- whether there is memory for one more write of a client
abbrev pub memory_of : Client → ℕ
memory_of c = c.spare + c.extra

abbrev pub memory_in : List Client → ℕ → ℕ
memory_in clients = of_client 0 memory_of clients

-- the writes of all clients that the slots still have
abbrev pub lists : List Client → List Undo
lists clients = flat_map list_of clients

-- those of them that are due
abbrev pub due : List Client → List Undo
due clients = flat_map due_of clients

-- those of all clients but one
abbrev pub lists_but : ℕ → List Client → List Undo
lists_but k [] = []
lists_but zero (c ∷ cs) = lists cs
lists_but (suc k) (c ∷ cs) = list_of c ++ lists_but k cs

-- nothing is due
abbrev pub NothingDue : List Client → Type 0
NothingDue clients = (k : ℕ) → due_in clients k ≡ []

-- no slot is in the lists of two clients
abbrev pub AreApart : List Client → Type 0
AreApart clients = (c d slot : ℕ) → wrote (list_in clients c) slot ≡ true → wrote (list_in clients d) slot ≡ true → c ≡ d

-- nothing changes for the clients but this one
pub record OthersStay (client : ℕ) (old new : List Client) : Type 0 where
  pub numbers : (c : ℕ) → c ≢ client → number_in new c ≡ number_in old c
  pub lists : (c : ℕ) → c ≢ client → list_in new c ≡ list_in old c
  pub due : (c : ℕ) → c ≢ client → due_in new c ≡ due_in old c

-- the writes that the slots have stay, and so do the numbers
pub record ListsStay (old new : List Client) : Type 0 where
  pub numbers : number_in new ≡ number_in old
  pub list : list_in new ≡ list_in old
  pub all : lists new ≡ lists old
  pub but : (k : ℕ) → lists_but k new ≡ lists_but k old

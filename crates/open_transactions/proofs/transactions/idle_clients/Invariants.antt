use Rattle.std.proofs.Common.{◌≡◌, ℕ, [], length, None}
use Rattle.open_transactions.specs.Clients.{transaction_in, list_in, number_in, idle}
use Rattle.open_transactions.proofs.transactions.idle_clients.Given as goal

abbrev pub invariant-loop : goal.invariant-loop
invariant-loop l = record {
  sixteen : length l.clients.items ≡ l.counter;
  idle : (k : ℕ) → transaction_in l.clients.items k ≡ idle;
  none : (k : ℕ) → list_in l.clients.items k ≡ [];
  numbers : (k : ℕ) → number_in l.clients.items k ≡ None;
}

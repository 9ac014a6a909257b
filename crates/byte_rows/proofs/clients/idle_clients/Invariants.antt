use Rattle.std.proofs.Common.{◌≡◌, ℕ, length}
use Rattle.byte_rows.specs.Clients.{client_in, no_client}
use Rattle.byte_rows.proofs.clients.idle_clients.Given as goal

abbrev pub invariant-loop : goal.invariant-loop
invariant-loop l = record {
  sixteen : length l.clients.items ≡ l.counter;
  idle : (k : ℕ) → client_in l.clients.items k ≡ no_client;
}

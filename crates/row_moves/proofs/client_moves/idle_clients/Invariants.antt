use Rattle.std.proofs.Common.{◌≡◌, ℕ, [], length}
use Rattle.row_moves.specs.Moved.{moved_in}
use Rattle.row_moves.proofs.client_moves.idle_clients.Given as goal

abbrev pub invariant-loop : goal.invariant-loop
invariant-loop l = record {
  sixteen : length l.clients.items ≡ l.counter;
  idle : (c : ℕ) → moved_in l.clients.items c ≡ [];
}

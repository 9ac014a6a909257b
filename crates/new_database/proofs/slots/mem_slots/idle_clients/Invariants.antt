use Rattle.std.proofs.Common.{◌≡◌, ℕ, length}
use Rattle.new_database.specs.slots.Mem.{transaction_in, idle}
use Rattle.new_database.specs.slots.Promised.{promised}
use Rattle.new_database.proofs.slots.mem_slots.idle_clients.Given as goal

abbrev pub invariant-loop : goal.invariant-loop
invariant-loop l = record {
  sixteen : length l.clients.items ≡ l.counter;
  idle : (k : ℕ) → transaction_in l.clients.items k ≡ idle;
  promised : promised l.clients.items ≡ 0;
}

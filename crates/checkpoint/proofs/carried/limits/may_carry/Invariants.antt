use Rattle.std.proofs.Common.{◌≡◌, ◌-◌, ◌<◌, ◌≤◌, ℕ, true, length}
use Rattle.storage.specs.Slots.{wrote}
use Rattle.open_transactions.specs.Clients.{list_in}
use Rattle.checkpoint.proofs.carried.limits.may_carry.Given as goal

abbrev pub invariant-clients : goal.invariant-clients
invariant-clients l = record {
  same_transactions : l.transactions ≡ l.fn.transactions;
  same_end : l.end ≡ l.fn.end;
  within : l.client ≤ 16;
  below : (client slot : ℕ) → client < l.client → wrote (list_in l.fn.transactions.clients.items client) slot ≡ true → slot < l.fn.end;
  few : (client : ℕ) → client < l.client → length (list_in l.fn.transactions.clients.items client) ≤ 7999;
}

abbrev pub decreases-clients : goal.decreases-clients
decreases-clients l = 16 - l.client

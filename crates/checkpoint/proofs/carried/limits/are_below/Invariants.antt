use Rattle.std.proofs.Common.{◌≡◌, ◌-◌, ◌<◌, ◌≤◌, ℕ, true, length, take}
use Rattle.storage.specs.Slots.{wrote}
use Rattle.open_transactions.specs.Clients.{list_in}
use Rattle.checkpoint.proofs.carried.limits.are_below.Given as goal

abbrev pub invariant-writes : goal.invariant-writes
invariant-writes l = record {
  same_transactions : l.transactions ≡ l.fn.transactions;
  same_client : l.client ≡ l.fn.client;
  same_end : l.end ≡ l.fn.end;
  all : l.count ≡ length (list_in l.fn.transactions.clients.items l.fn.client);
  within : l.i ≤ l.count;
  below : (slot : ℕ) → wrote (take l.i (list_in l.fn.transactions.clients.items l.fn.client)) slot ≡ true → slot < l.fn.end;
}

abbrev pub decreases-writes : goal.decreases-writes
decreases-writes l = l.count - l.i

use Rattle.std.proofs.Common.{◌≡◌, ◌≢◌, ℕ, ◌<◌, ◌-◌, true, false}
use Rattle.open_transactions.specs.Clients.{transaction_in}
use Rattle.test_disks.proofs.disk_rows.calling.others_wrote.Given as goal

abbrev pub invariant-clients : goal.invariant-clients
invariant-clients l = (k : ℕ) → k < l.other → k ≢ l.client → (transaction_in l.transactions.clients.items k).begun ≡ true → (transaction_in l.transactions.clients.items k).written l.slot ≡ false

abbrev pub decreases-clients : goal.decreases-clients
decreases-clients l = 16 - l.other

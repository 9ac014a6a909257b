use Rattle.std.proofs.Common.{◌≡◌, ℕ, ◌<◌, ◌-◌, []}
use Rattle.open_transactions.specs.Clients.{due_in}
use Rattle.open_transactions.proofs.transactions.Transactions.first_due.Given as goal

abbrev pub invariant-clients : goal.invariant-clients
invariant-clients l = (k : ℕ) → k < l.client → due_in l.self.clients.items k ≡ []

abbrev pub decreases-clients : goal.decreases-clients
decreases-clients l = 16 - l.client

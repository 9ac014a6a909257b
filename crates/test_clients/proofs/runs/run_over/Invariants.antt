use Rattle.std.proofs.Common.{◌≤◌, ◌≡◌}
use Rattle.std.specs.Prelude.{vec_len, vec_capacity}
use Rattle.test_clients.proofs.runs.run_over.Given as goal

abbrev pub invariant-loop-k : goal.invariant-loop-k
invariant-loop-k g l = (vec_len l.tasks ≡ l._k) × (l.clients ≤ vec_capacity l.tasks)

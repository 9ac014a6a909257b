use Rattle.std.proofs.Common.{◌≡◌, ◌<◌, ℕ, None, slice_index_or}
use Rattle.client_threads.proofs.clients.phases.leave_out.Given as goal

-- the clients so far have no end
abbrev pub invariant-loop-task : goal.invariant-loop-task
invariant-loop-task g l = (k : ℕ) (d : _) → k < l.task-index → (slice_index_or l.tasks k d).end ≡ None

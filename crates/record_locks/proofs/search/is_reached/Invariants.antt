use Rattle.std.proofs.Common.{◌≡◌, ◌<◌, ℕ, get_or}
use Rattle.record_locks.specs.declared.search.Path.{Path}
use Rattle.record_locks.proofs.search.is_reached.Given as goal

-- none of the paths so far ends at the client
abbrev pub invariant-loop-path : goal.invariant-loop-path
invariant-loop-path l = (k : ℕ) (d : Path) → k < l.path-index → (get_or l.paths k d).end ≡ l.client → ⊥

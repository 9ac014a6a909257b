use Rattle.std.proofs.Common.{sym, refl}
use Rattle.record_locks.proofs.search.is_reached.Goals as goal

pub returns-then-path-client : goal.returns-then-path-client
returns-then-path-client c =
    ((λ h. (c.loop-path.path-index, c.path-item.result, c.loop-path-test.true, sym c.path-item.is, c.if-path-client.true)), (λ r. refl))

use Rattle.std.proofs.Common.{◌≤◌, length, ap, arith}
use Rattle.record_locks.proofs.Tables.{nothing_held}
use Rattle.record_locks.proofs.locks.Locks.end.Goals as goal

pub returns-then-at-len-clause-freed : goal.returns-then-at-len-clause-freed
returns-then-at-len-clause-freed c =
    let past : length c.args.self.now ≤ c.args.client = omega (arith, ap length c.self.view_is) in
    ((λ h. absurd (cc)), (λ r. absurd (nothing_held c.args.self.now c.args.client past r)))

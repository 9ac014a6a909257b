use Rattle.std.proofs.Common.{◌≤◌, length, ap, arith}
use Rattle.record_locks.proofs.Tables.{nothing_freed, settled_past}
use Rattle.record_locks.proofs.locks.Locks.end_transaction.Goals as goal

pub returns-then-at-len-clause-freed : goal.returns-then-at-len-clause-freed
returns-then-at-len-clause-freed c =
    let past : length c.args.self.now ≤ c.args.client = omega (arith, ap length c.self.view_is) in
    ((λ h. absurd (cc)), (λ r. absurd (nothing_freed c.args.self.now c.args.client c.args.keep.now past r)))

pub returns-then-at-len-clause-left : goal.returns-then-at-len-clause-left
returns-then-at-len-clause-left c =
    let past : length c.args.self.now ≤ c.args.client = omega (arith, ap length c.self.view_is) in
    settled_past c.args.self.now c.args.client c.args.keep.now past

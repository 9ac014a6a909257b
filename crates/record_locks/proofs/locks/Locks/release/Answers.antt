use Rattle.std.proofs.Common.{◌≤◌, length, ap, sym, is_some, arith}
use Rattle.record_locks.proofs.Tables.{lock_past, released_past}
use Rattle.record_locks.proofs.locks.Locks.release.Goals as goal

pub returns-then-at-len-clause-freed : goal.returns-then-at-len-clause-freed
returns-then-at-len-clause-freed c =
    let past : length c.args.self.now ≤ c.args.client = omega (arith, ap length c.self.view_is) in
    sym (ap is_some (lock_past c.args.self.now c.args.client c.args.row.0 past))

pub returns-then-at-len-clause-left : goal.returns-then-at-len-clause-left
returns-then-at-len-clause-left c =
    let past : length c.args.self.now ≤ c.args.client = omega (arith, ap length c.self.view_is) in
    released_past c.args.self.now c.args.client c.args.row.0 past

use Rattle.std.proofs.Common.{◌≡◌, ◌≤◌, length, ap, sym, ◌∙◌, arith}
use Rattle.record_locks.proofs.Tables.{lock_past}
use Rattle.record_locks.proofs.locks.Locks.held.Goals as goal

pub returns-in-None : goal.returns-in-None
returns-in-None c =
    let here : c.deref.result.now ≡ c.args.self.now = c.deref.ensures.value ∙ c.self.view_is in
    let past : length c.args.self.now ≤ c.args.client = omega (arith, ap length here, c.in-None.ensures.lookup.3, c.from.ensures) in
    sym (lock_past c.args.self.now c.args.client c.args.row.0 past)

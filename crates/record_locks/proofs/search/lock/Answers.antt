use Rattle.std.proofs.Common.{◌≤◌, length, sym, arith}
use Rattle.record_locks.proofs.Tables.{lock_past}
use Rattle.record_locks.proofs.search.lock.Goals as goal

pub returns-then-at-table : goal.returns-then-at-table
returns-then-at-table c =
    let past : length c.args.table.now ≤ c.args.client = omega arith in
    sym (lock_past c.args.table.now c.args.client c.args.row.0 past)

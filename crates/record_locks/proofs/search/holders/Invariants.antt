use Rattle.record_locks.specs.Table.{ConflictsOnLock}
use Rattle.record_locks.proofs.Listing.{ListsBelow}
use Rattle.record_locks.proofs.search.holders.Given as goal

-- those below the number that conflict with the lock are listed
abbrev pub invariant-loop-number : goal.invariant-loop-number
invariant-loop-number l = ListsBelow l.number (ConflictsOnLock l.table l.client l.row.0 l.exclusive) l.holders.items

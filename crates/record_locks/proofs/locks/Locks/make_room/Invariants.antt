use Rattle.std.proofs.Common.{◌-◌, ◌≤◌, length}
use Rattle.record_locks.specs.Table.{IsSame}
use Rattle.record_locks.proofs.locks.Locks.make_room.Given as goal

-- each client is as it was
abbrev pub invariant-loop-alloc : goal.invariant-loop-alloc
invariant-loop-alloc l = IsSame l.fn.self l.self-inside.clients.items × (length l.self-inside.clients.items ≤ 65536)

abbrev pub decreases-loop-alloc : goal.decreases-loop-alloc
decreases-loop-alloc l = l.end - length l.self-inside.clients.items

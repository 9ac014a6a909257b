use Rattle.record_locks.specs.Table.{WaitsAgainst}
use Rattle.record_locks.proofs.PathLemmas.{IsFollowing}
use Rattle.record_locks.proofs.search.follow.Given as goal

-- the paths begin with the old ones, are valid, and reach each client below `number` that the end waits for
abbrev pub invariant-loop-number : goal.invariant-loop-number
invariant-loop-number l =
    IsFollowing (WaitsAgainst l.search.table.now l.search.key_waits.now l.search.client l.search.against.now) l.search.client l.fn.paths.items l.end l.number l.paths.items

use Rattle.record_locks.specs.Table.{WaitsAgainst}
use Rattle.record_locks.proofs.PathLemmas.{IsSearching}
use Rattle.record_locks.proofs.search.find_cycle.Given as goal

-- the paths before this one are done
abbrev pub invariant-loop-at : goal.invariant-loop-at
invariant-loop-at l =
    IsSearching (WaitsAgainst l.search.table.now l.search.key_waits.now l.search.client l.search.against.now) l.search.client l.bound l.paths.items l.at

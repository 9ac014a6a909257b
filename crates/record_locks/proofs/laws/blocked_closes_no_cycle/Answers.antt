use Rattle.record_locks.proofs.Deciding.{listed_none}
use Rattle.record_locks.proofs.Waiting.{no_cycle_blocked}
use Rattle.record_locks.proofs.laws.blocked_closes_no_cycle.Goals as goal

pub returns : goal.returns
returns c = λ old new key_waits client row exclusive against others_keys before lists none after.
    no_cycle_blocked old new key_waits client row exclusive others_keys before (listed_none old key_waits client row.0 exclusive against lists none) after

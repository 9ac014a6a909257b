use Rattle.machine_laws.proofs.LocksLemmas.Exclusive.{exclusive_own}
use Rattle.machine_laws.proofs.locks.laws.exclusive_locks_are_of_own_events.Goals as goal

pub returns : goal.returns
returns c = exclusive_own

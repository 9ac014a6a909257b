use Rattle.record_locks.proofs.Apart.{first_apart, granted_apart, blocked_apart, released_apart, settled_apart, ended_apart}
use Rattle.record_locks.proofs.laws.locks_stay_apart.Goals as goal

pub returns-clause-at_first : goal.returns-clause-at_first
returns-clause-at_first c = first_apart

pub returns-clause-grant : goal.returns-clause-grant
returns-clause-grant c = granted_apart

pub returns-clause-block : goal.returns-clause-block
returns-clause-block c = blocked_apart

pub returns-clause-release : goal.returns-clause-release
returns-clause-release c = released_apart

pub returns-clause-end_transaction : goal.returns-clause-end_transaction
returns-clause-end_transaction c = settled_apart

pub returns-clause-end : goal.returns-clause-end
returns-clause-end c = ended_apart

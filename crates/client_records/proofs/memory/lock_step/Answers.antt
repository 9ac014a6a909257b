use Rattle.std.proofs.Common.{subst}
use Rattle.block_meaning.specs.State.{State}
use Rattle.client_records.specs.Locks.{LockIs}
use Rattle.client_records.proofs.Lent.{if_ok, lent, lent_now, rest_at}
use Rattle.client_records.proofs.memory.lock_step.Goals as goal

pub returns-clause-goes : goal.returns-clause-goes
returns-clause-goes c =
    let m = c.args.machine.now in
    if_ok c.locked.result (λ step goes p rest reads.
    subst (λ (s : State). LockIs step c.args.buffer s) (lent_now rest m c.as_slice.result.now c.as_slice.ensures.value)
    (goes p (rest_at rest m) (lent p rest m c.as_slice.result.now c.as_slice-2.result.now c.as_slice.ensures.value c.as_slice-2.ensures reads))) c.locked.ensures

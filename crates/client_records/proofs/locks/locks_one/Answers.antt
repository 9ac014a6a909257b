use Rattle.std.proofs.Common.{refl}
use Rattle.block_meaning.specs.Frames.{content_of, table_of}
use Rattle.flat_machine.specs.Flat as flat
use Rattle.client_machine.specs.Machine.{stack_in}
use Rattle.client_machine.specs.declared.mode.changes.ChangeTask.TheVariants as change_task
use Rattle.client_records.proofs.Kept.{on_ok, task_step_from}
use Rattle.client_records.proofs.locks.locks_one.Goals as goal

pub returns-clause-ok : goal.returns-clause-ok
returns-clause-ok c =
    let old = c.args.machine.now in
    let b = c.args.buffer in
    on_ok c.lock.result (λ kept. task_step_from (change_task.LocksOne b) (λ p s. flat.lock_step (content_of b s) (table_of b s) b (stack_in old) s) old c.lock.new.machine (λ p s. refl) kept) c.lock.ensures.ok

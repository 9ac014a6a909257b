use Rattle.client_machine.specs.declared.mode.Task.TheVariants as task
use Rattle.client_machine.specs.declared.mode.reads.ReadTask.TheVariants as read_task
use Rattle.client_finds.proofs.Kept.{on_ok, task_from}
use Rattle.client_finds.proofs.tasks.looks.Goals as goal

pub returns-clause-ok : goal.returns-clause-ok
returns-clause-ok c = on_ok c.look.result (λ keeps. task_from (task.Read (read_task.Looks c.args.fuel c.args.search c.args.from)) c.args.machine.now c.look.new.machine (λ o. o.1) keeps) c.look.ensures.ok

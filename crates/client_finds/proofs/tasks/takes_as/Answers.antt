use Rattle.client_machine.specs.declared.mode.Task.TheVariants as task
use Rattle.client_machine.specs.declared.mode.reads.ReadTask.TheVariants as read_task
use Rattle.client_finds.proofs.Kept.{on_ok, task_from}
use Rattle.client_finds.proofs.tasks.takes_as.Goals as goal

pub returns-clause-ok : goal.returns-clause-ok
returns-clause-ok c = on_ok c.take_as.result (λ keeps. task_from (task.Read (read_task.TakesAs c.args.place c.args.wait c.args.retry c.args.row)) c.args.machine.now c.take_as.new.machine (λ o. o.1) keeps) c.take_as.ensures.ok

use Rattle.client_machine.specs.declared.mode.Task.TheVariants as task
use Rattle.client_machine.specs.declared.mode.reads.ReadTask.TheVariants as read_task
use Rattle.client_finds.proofs.Kept.{on_ok, task_from}
use Rattle.client_finds.proofs.tasks.searches.Goals as goal

pub returns-clause-ok : goal.returns-clause-ok
returns-clause-ok c = on_ok c.search.result (λ keeps. task_from (task.Read (read_task.Searches c.args.place c.args.forward c.args.only c.args.wait c.args.retry c.args.from)) c.args.machine.now c.search.new.machine (λ o. o.1) keeps) c.search.ensures.ok

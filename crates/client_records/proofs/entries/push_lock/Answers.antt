use Rattle.std.proofs.Common.{ap, subst, sym, List}
use Rattle.client_machine.specs.Config.{stack_of}
use Rattle.client_machine.specs.Order.{InOrder}
use Rattle.client_machine.specs.declared.mode.StackEntry.{StackEntry}
use Rattle.client_machine.specs.declared.mode.StackEntry.TheVariants as stack
use Rattle.client_machine.specs.declared.mode.Task.TheVariants as task
use Rattle.client_machine.specs.declared.mode.changes.ChangeTask.TheVariants as change_task
use Rattle.client_records.proofs.Pushed.{pushed}
use Rattle.client_records.proofs.entries.push_lock.Goals as goal

pub returns-clause-pushed : goal.returns-clause-pushed
returns-clause-pushed c = λ code cs. ap (stack_of code cs) (pushed c.args.stack.now.items c.push.new.self.items (stack.Then (task.Change (change_task.LocksOne c.args.buffer))) c.in_ok-push.ensures.items)

pub returns-clause-order : goal.returns-clause-order
returns-clause-order c = λ n o. subst (λ (ks : List StackEntry). InOrder n ks) (sym (pushed c.args.stack.now.items c.push.new.self.items (stack.Then (task.Change (change_task.LocksOne c.args.buffer))) c.in_ok-push.ensures.items)) (tt, o)

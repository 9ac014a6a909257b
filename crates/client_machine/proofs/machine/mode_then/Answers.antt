use Rattle.client_machine.specs.Config.{task_of}
use Rattle.client_machine.proofs.Orders.{then_passed}
use Rattle.client_machine.proofs.Entries.{then_past}
use Rattle.client_machine.proofs.machine.mode_then.Goals as goal

pub returns-in_default : goal.returns-in_default
returns-in_default c = record {
  order = λ n os can o. then_passed n c.args.completion c.args.task os can c.in_default.not-Normal o;
  same = λ code cs ks s. then_past c.args.completion code cs (task_of code cs c.args.task) ks s c.in_default.not-Normal;
}

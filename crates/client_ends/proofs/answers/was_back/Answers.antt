use Rattle.std.proofs.Common.{refl}
use Rattle.client_machine.specs.declared.mode.Mode.TheVariants as mode
use Rattle.client_machine.specs.declared.mode.OnAnswer.TheVariants as on_answer
use Rattle.client_machine.specs.declared.mode.Task.TheVariants as task
use Rattle.client_machine.specs.declared.mode.ends.EndAnswer.TheVariants as end_answer
use Rattle.client_machine.specs.declared.mode.ends.EndTask.TheVariants as end_task
use Rattle.client_values.proofs.Assigned.{same_shape}
use Rattle.client_ends.proofs.Moved.{answer_moved}
use Rattle.client_ends.proofs.answers.was_back.Goals as goal

pub returns-clause-ok : goal.returns-clause-ok
returns-clause-ok c =
    let old = c.args.machine.now in
    answer_moved c.args.op (on_answer.End (end_answer.WasBack c.args.depth c.args.but)) c.args.answer old c.set_mode.new.self (mode.Execute (task.End (end_task.AfterBack c.args.depth c.args.but))) old.memory c.set_mode.ensures (same_shape old.memory) (λ p k ks s. c.requires p _ k ks s) (λ o. o) (λ p rest f. refl)

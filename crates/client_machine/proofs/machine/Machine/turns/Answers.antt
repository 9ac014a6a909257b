use Rattle.client_machine.specs.declared.mode.Task.TheVariants as task
use Rattle.client_machine.specs.Step.{code_in}
use Rattle.client_machine.proofs.RunKept.{on_three, task_kept_turn}
use Rattle.client_machine.proofs.machine.Machine.turns.Goals as goal

pub returns-clause-ok : goal.returns-clause-ok
returns-clause-ok c =
    let old = c.args.self.now in
    on_three c.turn.result (λ moved order steps. task_kept_turn (task.Turns c.args.fuel c.args.place c.args.outer c.args.left c.args.turn) old c.turn.new.self moved (λ o. order _ o.1) (λ tree p rest f. steps rest (code_in old) p)) c.turn.ensures.moved c.turn.ensures.order c.turn.ensures.ok

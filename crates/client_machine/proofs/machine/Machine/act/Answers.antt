use Rattle.std.proofs.Common.{◌≡◌, [], refl, sym, subst}
use Rattle.client_machine.specs.declared.machine.Machine.{Machine}
use Rattle.client_machine.specs.Config.{header_at}
use Rattle.client_machine.specs.Step.{KeepsTask}
use Rattle.client_machine.specs.declared.mode.Task.TheVariants as task
use Rattle.client_machine.proofs.Returned.{act_keeps, act_closes}
use Rattle.client_machine.proofs.machine.Machine.act.Goals as goal

pub returns-then-not-is_bufferless-clause-ok : goal.returns-then-not-is_bufferless-clause-ok
returns-then-not-is_bufferless-clause-ok c =
    let old = c.args.self.now in
    subst (KeepsTask (task.Acts c.args.place c.args.turn c.args.after_undo c.args.retry) old) (sym c.set_mode.ensures)
    (act_closes old c.set_returned.new.self c.args.place c.args.turn c.args.after_undo c.args.retry c.mode_undone-mode.result c.in_ok-set_returned.ensures.moved c.in_ok-set_returned.ensures.ok c.mode_undone-mode.ensures.same c.mode_undone-mode.ensures.order)

pub returns-clause-ok : goal.returns-clause-ok
returns-clause-ok c =
    let old = c.args.self.now in
    subst (KeepsTask (task.Acts c.args.place c.args.turn c.args.after_undo c.args.retry) old) (sym c.set_mode-2.ensures)
    (act_keeps old c.set_returned.new.self c.args.place c.args.turn c.args.after_undo c.args.retry c.completion_undone-completion.result c.in_ok-set_returned.ensures.moved c.in_ok-set_returned.ensures.ok c.completion_undone-completion.ensures.same c.completion_undone-completion.ensures.plain
    (subst (λ (m : Machine). (header_at m.code.instrs.items c.args.place).scoped ≡ []) c.in_ok-set_returned.ensures.moved (c.if-not-is_bufferless.ensures refl)))

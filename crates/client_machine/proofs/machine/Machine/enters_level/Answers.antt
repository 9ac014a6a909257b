use Rattle.std.proofs.Common.{None, sym, ap, ◌∙◌, subst, refl}
use Rattle.database_protocol.specs.declared.operation.Op.TheVariants as op
use Rattle.flat_machine.specs.Flat as flat
use Rattle.client_machine.specs.declared.mode.Task.TheVariants as task
use Rattle.client_machine.specs.declared.mode.OnAnswer.TheVariants as on_answer
use Rattle.client_machine.specs.Config.{header_at, body_at, turn_of}
use Rattle.client_machine.specs.Machine.{stack_in, state_in}
use Rattle.client_machine.specs.Step.{KeepsTask}
use Rattle.client_machine.proofs.RunKept.{task_kept, task_kept_ask}
use Rattle.client_machine.proofs.machine.Machine.enters_level.Goals as goal

pub returns-then-enters-clause-ok : goal.returns-then-enters-clause-ok
returns-then-enters-clause-ok c =
    let old = c.args.self.now in
    let b = header_at old.code.instrs.items c.args.place in
    let body = body_at old.code.instrs.items c.args.place in
    let ks = stack_in old in
    task_kept_ask (task.EntersLevel c.args.place c.args.turn c.args.retry c.args.left) op.Enter (on_answer.WasEntered c.args.place c.args.turn c.args.retry c.args.left) old c.ask.new.self c.ask.ensures.moved c.ask.ensures.mode refl (λ o. o.1)
    (λ tree p rest f.
    let s = state_in rest old in
    c.ask.ensures.asks rest
    ∙ ap (λ so. flat.config_if so (flat.ask op.Enter (flat.WasEntered b (turn_of c.args.turn) c.args.retry body c.args.left) ks s) (flat.config (flat.Execute (flat.Begins b None (turn_of c.args.turn) c.args.retry body c.args.left)) ks s)) (sym (sym c.enters.ensures ∙ c.if-enters.true)))

pub returns-else-enters-clause-ok : goal.returns-else-enters-clause-ok
returns-else-enters-clause-ok c =
    let old = c.args.self.now in
    let b = header_at old.code.instrs.items c.args.place in
    let body = body_at old.code.instrs.items c.args.place in
    let ks = stack_in old in
    let t = task.EntersLevel c.args.place c.args.turn c.args.retry c.args.left in
    subst (KeepsTask t old) (sym c.set_mode.ensures)
    (task_kept t old _ refl (λ o. (tt, tt, o.1))
    (λ tree p rest f.
    let s = state_in rest old in
    ap (λ so. flat.config_if so (flat.ask op.Enter (flat.WasEntered b (turn_of c.args.turn) c.args.retry body c.args.left) ks s) (flat.config (flat.Execute (flat.Begins b None (turn_of c.args.turn) c.args.retry body c.args.left)) ks s)) (sym (sym c.enters.ensures ∙ c.if-enters.false))))

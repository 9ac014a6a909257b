use Rattle.std.proofs.Common.{sym, ap, ◌∙◌, subst, None}
use Rattle.flat_machine.specs.Flat as flat
use Rattle.client_machine.specs.Config.{header_at, body_at, turn_of}
use Rattle.client_machine.specs.KeepsFrom.{KeepsFrom, mode_if}
use Rattle.client_machine.specs.Machine.{stack_in}
use Rattle.client_machine.specs.declared.machine.Machine.{Machine}
use Rattle.client_machine.specs.declared.mode.Mode.TheVariants as mode
use Rattle.client_machine.specs.declared.mode.Completion.TheVariants as completion
use Rattle.client_machine.specs.declared.mode.LineFault.TheVariants as line_fault
use Rattle.client_machine.specs.declared.mode.Task.TheVariants as task
use Rattle.std.proofs.Common.{Some}
use Rattle.client_machine.proofs.TurnsKept.{turn_kept, turn_fails}
use Rattle.client_machine.proofs.machine.Machine.iterates_paid.Goals as goal

pub returns-in-Ok-clause-ok : goal.returns-in-Ok-clause-ok
returns-in-Ok-clause-ok c =
    let old = c.args.self.now in
    let turn = c.args.turn in
    let retry = c.retry_in-retry.result in
    subst (λ (m : Machine). KeepsFrom (λ p s. flat.turn_step p (header_at old.code.instrs.items c.args.place) c.args.outer (body_at old.code.instrs.items c.args.place) c.args.left (turn_of turn) (stack_in old) s) old m)
    (sym (c.begin_or_complete.ensures ∙ ap (λ (x : Machine). record x { mode = mode_if c.in-Ok.begins (mode.Execute (task.EntersLevel c.args.place (record turn { start = None }) retry c.args.left)) (mode.Unwind completion.Normal) }) c.judge_at.ensures.moved))
    (turn_kept old c.judge_at.new.self.memory c.args.place c.args.left turn c.args.outer retry c.in-Ok.begins c.judge_at.ensures.shape c.retry_in-retry.ensures c.in-Ok.ensures.judges)

pub returns-in-Err-Fault-clause-ok : goal.returns-in-Err-Fault-clause-ok
returns-in-Err-Fault-clause-ok c =
    let old = c.args.self.now in
    let turn = c.args.turn in
    let retry = c.retry_in-retry.result in
    let fails = rw c.in-Err-Fault.field-0-is at c.in-Err-Fault.ensures.judges in
    subst (λ (m : Machine). KeepsFrom (λ p s. flat.turn_step p (header_at old.code.instrs.items c.args.place) c.args.outer (body_at old.code.instrs.items c.args.place) c.args.left (turn_of turn) (stack_in old) s) old m)
    (sym (c.fail_header.ensures ∙ ap (λ (x : Machine). record x { mode = mode.Unwind (completion.Faults (Some (line_fault.Expression c.in-Err-Fault.fault))) }) c.judge_at.ensures.moved))
    (turn_fails old c.judge_at.new.self.memory c.args.place c.args.left turn c.args.outer retry c.in-Err-Fault.fault c.judge_at.ensures.shape c.retry_in-retry.ensures fails)

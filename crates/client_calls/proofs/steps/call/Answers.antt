use Rattle.std.proofs.Common.{rules, ◌≡◌, suc, sym, ap, ◌∙◌, arith, false, subst, refl}
use Rattle.std.specs.Prelude.{reverse}
use Rattle.client_machine.specs.declared.machine.Machine.{Machine}
use Rattle.client_machine.specs.declared.mode.Mode.TheVariants as mode
use Rattle.client_machine.specs.declared.mode.Task.TheVariants as task
use Rattle.client_machine.specs.declared.mode.StackEntry.TheVariants as stack
use Rattle.flat_machine.specs.Flat as flat
use Rattle.client_machine.specs.Config.{instr_at, run_arguments, run_procedure}
use Rattle.client_machine.specs.Machine.{stack_in, state_in}
use Rattle.client_machine.specs.Step.{KeepsTask, code_in}
use Rattle.client_machine.proofs.RunKept.{pushed, task_kept}
use Rattle.client_calls.proofs.RunSteps.{call_kept}
use Rattle.client_calls.proofs.steps.call.Goals as goal

pub returns-clause-ok : goal.returns-clause-ok
returns-clause-ok c =
    let old = c.args.machine.now in
    let new = c.set_mode-2.new.self in
    let mem = c.begin_procedure.new.memory in
    let m = mode.Execute (task.Blocks c.in_ok-begun.begun.place false c.in-Some.left) in
    let e = c.set_mode-2.ensures in
    let is : c.args.left ≡ suc c.in-Some.left = first_of (omega (arith, c.in-Some.ensures), search (rules, c.in-Some.is, c.in-Some.ensures, c.checked_sub.ensures)) in
    call_kept c.args.place c.args.left c.in-Some.left c.args.values c.in_ok-begun.begun old new mem is c.in_ok-begun.ensures
    (ap (λ (x : Machine). x.procedures.items) e ∙ c.in_ok-push.ensures.items)
    (ap (λ (x : Machine). reverse x.stack.items) e ∙ pushed old.stack.items c.push-2.new.self.items (stack.Called c.args.place) c.in_ok-push-2.ensures.items)
    (e ∙ ap (λ ps. record old { mode = m; stack = c.push-2.new.self; procedures = ps; memory = mem }) (sym (ap (λ (x : Machine). x.procedures) e))
    ∙ ap (λ st. record old { mode = m; stack = st; procedures = new.procedures; memory = mem }) (sym (ap (λ (x : Machine). x.stack) e)))

pub returns-in_default-clause-ok : goal.returns-in_default-clause-ok
returns-in_default-clause-ok c =
    let old = c.args.machine.now in
    let i = instr_at old.code.instrs.items c.args.place in
    let t = task.Calls c.args.place c.args.left c.args.values in
    let z : c.args.left ≡ 0 = omega (arith, c.in_default.ensures) in
    subst (KeepsTask t old) (sym c.set_mode.ensures)
    (task_kept t old _ refl (λ o. tt) (λ tree p rest f. sym (ap (λ d. flat.task_step (code_in old) p (flat.Calls d (run_procedure i) (run_arguments i) c.args.values) (stack_in old) (state_in rest old)) z)))

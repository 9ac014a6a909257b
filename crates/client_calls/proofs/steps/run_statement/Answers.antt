use Rattle.std.proofs.Common.{◌∷◌, sym, ap, ◌∙◌, subst, refl}
use Rattle.bound_tree.specs.Tree.{Run}
use Rattle.flat_machine.specs.Flat as flat
use Rattle.client_machine.specs.declared.machine.Machine.{Machine}
use Rattle.client_machine.specs.declared.mode.Task.TheVariants as task
use Rattle.client_machine.specs.Config.{instr_at, run_arguments, run_procedure}
use Rattle.client_machine.specs.Machine.{config_of, stack_in, state_in}
use Rattle.client_machine.specs.Step.{KeepsTask}
use Rattle.client_machine.proofs.RunKept.{on_three, task_kept}
use Rattle.client_calls.specs.Steps.{status_after}
use Rattle.client_calls.proofs.RunSteps.{run_kept}
use Rattle.client_calls.proofs.steps.run_statement.Goals as goal

pub returns-then-not-charge-clause-ok : goal.returns-then-not-charge-clause-ok
returns-then-not-charge-clause-ok c =
    let old = c.args.machine.now in
    let t = task.RunsFrom c.args.place c.args.left c.args.retry in
    let i = instr_at old.code.instrs.items c.args.place in
    let run = c.in-Some.run' in
    let e = c.if-not-charge.ensures.stopped refl in
    subst (KeepsTask t old) (sym e)
    (task_kept t old _ refl (λ o. tt) (λ tree p rest f.
    ap (config_of rest) (sym e)
    ∙ c.if-not-charge.ensures.stops refl rest (λ s. flat.stmt_step p (Run (run_procedure i) (run_arguments i) run.no_error) c.args.left c.args.retry (flat.ThenDo (flat.RunsFrom run.next c.args.left c.args.retry) ∷ stack_in old) s)
    ∙ ap (λ x. flat.instr_step p x c.args.left c.args.retry (stack_in old) (state_in rest old)) (sym c.in-Some.ensures)))

pub returns-clause-ok : goal.returns-clause-ok
returns-clause-ok c =
    let old = c.args.machine.now in
    let run = c.in-Some.run' in
    let went = c.charge.new.self in
    let mid : Machine = record went { status = c.cleared-status.result } in
    let same = c.if-not-charge.ensures.same refl in
    on_three c.evaluate_arguments.result (λ moved order evaluated.
    run_kept run c.args.place c.args.left c.args.retry old mid c.evaluate_arguments.new.machine c.in-Some.ensures
    (ap (λ (m : Machine). record m { status = c.cleared-status.result }) same
    ∙ ap (λ b. record old { units = went.units; status = b }) (c.cleared-status.ensures ∙ ap (λ (m : Machine). status_after run.no_error m.status) same))
    (λ rest ks go. c.if-not-charge.ensures.paid refl rest ks go ∙ ap (λ (m : Machine). go (state_in rest m)) same)
    moved order evaluated) c.evaluate_arguments.ensures.moved c.evaluate_arguments.ensures.order c.evaluate_arguments.ensures.ok

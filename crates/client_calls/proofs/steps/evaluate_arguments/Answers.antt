use Rattle.std.proofs.Common.{◌≡◌, ◌∷◌, sym, ap, ◌∙◌, subst}
use Rattle.std.specs.Prelude.{reverse}
use Rattle.block_meaning.specs.Program.{procedure_at}
use Rattle.block_meaning.specs.Meaning.{argument_values}
use Rattle.flat_machine.specs.Flat as flat
use Rattle.client_machine.specs.declared.mode.Task.TheVariants as task
use Rattle.client_machine.specs.declared.mode.StackEntry.TheVariants as stack
use Rattle.client_machine.specs.Config.{instr_at, run_arguments, run_procedure, mode_of, stack_of}
use Rattle.client_machine.specs.Machine.{config_of, stack_in, state_in}
use Rattle.client_machine.proofs.RunKept.{pushed}
use Rattle.client_calls.specs.Calls.{EvaluatesAll}
use Rattle.client_calls.proofs.Found.{rest_of, state_is}
use Rattle.client_calls.proofs.steps.evaluate_arguments.Goals as goal

pub returns-clause-ok : goal.returns-clause-ok
returns-clause-ok c = λ p rest prog fits even.
    let old = c.args.machine.now in
    let instrs = old.code.instrs.items in
    let cs = old.memory.copies in
    let i = instr_at instrs c.args.place in
    let params = (procedure_at p (run_procedure i)).parameters in
    let s = state_in rest old in
    let follows = stack.Then (task.RunsFrom c.args.run.next c.args.left c.args.retry) in
    let entries : reverse c.push-2.new.self.items ≡ stack.Handles c.args.run.no_error ∷ follows ∷ reverse old.stack.items =
    pushed c.push.new.self.items c.push-2.new.self.items (stack.Handles c.args.run.no_error) c.in_ok-push-2.ensures.items
    ∙ ap (λ es. stack.Handles c.args.run.no_error ∷ es) (pushed old.stack.items c.push.new.self.items follows c.in_ok-push.ensures.items) in
    let evaluated : EvaluatesAll c.values_at-values.result (argument_values p (run_arguments i) params c.args.retry s) =
    subst (λ x. EvaluatesAll c.values_at-values.result (argument_values p (run_arguments i) params c.args.retry x)) (sym (state_is rest old.procedures.items old.memory old.units))
    (c.values_at-values.ensures p (rest_of rest old.memory old.units) old.procedures.items prog.procedures (record { forms = prog.forms; even = even; status_is = fits.status_is; returned_is = fits.returned_is ∙ sym c.as_slice.ensures })) in
    ap (config_of rest) c.set_mode.ensures
    ∙ ap (λ es. flat.config (mode_of instrs cs c.in_ok-mode.mode) (stack_of instrs cs es) s) entries
    ∙ c.in_ok-mode.ensures.same instrs cs (flat.Handles c.args.run.no_error ∷ flat.ThenDo (flat.RunsFrom c.args.run.next c.args.left c.args.retry) ∷ stack_in old) s (argument_values p (run_arguments i) params c.args.retry s) evaluated

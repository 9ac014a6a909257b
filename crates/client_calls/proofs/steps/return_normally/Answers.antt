use Rattle.std.proofs.Common.{◌-◌, take, sym, ap, ◌∙◌, refl}
use Rattle.client_machine.specs.declared.machine.Machine.{Machine}
use Rattle.client_machine.specs.declared.mode.Mode.TheVariants as mode
use Rattle.client_machine.specs.declared.mode.Completion.TheVariants as completion
use Rattle.client_calls.proofs.RunSteps.{returned_kept}
use Rattle.client_calls.proofs.steps.return_normally.Goals as goal

pub returns-clause-ok : goal.returns-clause-ok
returns-clause-ok c =
    let old = c.args.machine.now in
    let e = c.set_mode.ensures in
    returned_kept c.args.place completion.Normal old c.set_mode.new.self c.end_procedure.new.memory (λ p rest f. f.order.1) (λ p cs args q ks s. refl) c.in_ok-end_procedure.ensures
    (ap (λ (x : Machine). x.procedures.items) e ∙ c.pop.ensures.rest ∙ ap (λ j. take (j - 1) old.procedures.items) old.procedures.ok.0)
    (e ∙ ap (λ ps. record old { mode = mode.Unwind completion.Normal; procedures = ps; memory = c.end_procedure.new.memory }) (sym (ap (λ (x : Machine). x.procedures) e)))

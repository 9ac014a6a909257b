use Rattle.std.proofs.Common.{◌-◌, None, take, sym, ap, ◌∙◌}
use Rattle.client_machine.specs.declared.machine.Machine.{Machine}
use Rattle.client_machine.specs.declared.mode.Mode.TheVariants as mode
use Rattle.client_machine.specs.declared.mode.Completion.TheVariants as completion
use Rattle.client_calls.proofs.RunSteps.{failed_kept}
use Rattle.client_calls.proofs.steps.return_error.Goals as goal

pub returns-clause-ok : goal.returns-clause-ok
returns-clause-ok c =
    let old = c.args.machine.now in
    let e = c.set_mode.ensures in
    failed_kept c.args.place old c.set_mode.new.self c.end.new.self c.end.ensures
    (ap (λ (x : Machine). x.procedures.items) e ∙ c.pop.ensures.rest ∙ ap (λ j. take (j - 1) old.procedures.items) old.procedures.ok.0)
    (e ∙ ap (λ ps. record old { mode = mode.Unwind (completion.Faults None); procedures = ps; memory = c.end.new.self }) (sym (ap (λ (x : Machine). x.procedures) e)))

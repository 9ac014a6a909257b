use Rattle.std.proofs.Common.{sym, ap, ◌∙◌}
use Rattle.client_machine.specs.declared.machine.Machine.{Machine}
use Rattle.client_machine.specs.declared.mode.Mode.{Mode}
use Rattle.client_machine.proofs.RunKept.{on_ok, unwind_keeps}
use Rattle.client_core.proofs.Still.{same_run}
use Rattle.client_core.proofs.steps.take_completion.Goals as goal

pub returns-in-Unwind-clause-ok : goal.returns-in-Unwind-clause-ok
returns-in-Unwind-clause-ok c = on_ok c.unwind.result (unwind_keeps c.in-Unwind.completion _ c.args.machine.now c.unwind.new.machine (sym c.in-Unwind.is ∙ c.replace.ensures.value)) c.unwind.ensures.ok

pub returns-in_default-clause-ok : goal.returns-in_default-clause-ok
returns-in_default-clause-ok c =
    let old = c.args.machine.now in
    same_run old c.set_mode.new.self (c.set_mode.ensures ∙ ap (λ (m : Mode). let x : Machine = record old { mode = m } in x) c.replace.ensures.value)

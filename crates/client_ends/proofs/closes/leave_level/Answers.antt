use Rattle.std.proofs.Common.{◌∷◌, ap, ◌∙◌}
use Rattle.std.specs.Prelude.{reverse}
use Rattle.client_machine.proofs.RunKept.{pushed}
use Rattle.client_ends.proofs.Closing.{leaves_level}
use Rattle.client_ends.proofs.closes.leave_level.Goals as goal

pub returns-in-Some-End-clause-ok : goal.returns-in-Some-End-clause-ok
returns-in-Some-End-clause-ok c =
    let old = c.args.machine.now in
    let x = c.in-Some-End in
    let popped = c.pop.new.self in
    leaves_level x.entry c.args.level c.args.place c.completion_closed-completion.result old c.set_mode.new.self c.push.new.self (reverse popped.items) c.set_mode.ensures
    (pushed popped.items old.stack.items x.field-0 x.ensures.items ∙ ap (λ e. e ∷ reverse popped.items) x.field-0-is)
    (pushed popped.items c.push.new.self.items _ c.in_ok-push-in-Some-End.ensures.items)
    c.completion_closed-completion.ensures.same c.completion_closed-completion.ensures.plain

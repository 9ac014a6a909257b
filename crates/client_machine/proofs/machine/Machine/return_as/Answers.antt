use Rattle.std.proofs.Common.{refl, sym, ap, ◌∙◌}
use Rattle.client_machine.specs.declared.machine.Machine.{Machine}
use Rattle.client_machine.specs.Machine.{config_of}
use Rattle.client_machine.proofs.Returned.{rest_with}
use Rattle.client_machine.proofs.machine.Machine.return_as.Goals as goal

pub returns-then-not-charge-clause-ok : goal.returns-then-not-charge-clause-ok
returns-then-not-charge-clause-ok c = λ even rest p forms e1 e2.
    ap (λ t. config_of (rest_with rest t) c.charge.new.self) (ap (λ (m : Machine). m.returned) (c.if-not-charge.ensures.stopped refl) ∙ sym e2)
    ∙ c.if-not-charge.ensures.stops refl rest _

use Rattle.std.proofs.Common.{sym, subst}
use Rattle.client_machine.specs.InstrClasses.{IsOfClass}
use Rattle.client_machine.proofs.machine.Machine.class_at.Goals as goal

pub returns-in-Some : goal.returns-in-Some
returns-in-Some c = subst (λ i. IsOfClass c.stmt_class.result i) (sym c.in-Some.ensures) c.stmt_class.ensures

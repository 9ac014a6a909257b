use Rattle.std.proofs.Common.{ℕ, Option, subst}
use Rattle.client_machine.specs.Order.{Named}
use Rattle.client_finds.proofs.find.mode_after_endkey.Goals as goal

pub returns-in-None-clause-order : goal.returns-in-None-clause-order
returns-in-None-clause-order c = λ n os h. subst (λ (first : Option ℕ). Named n first os) c.in-None.is h

use Rattle.std.proofs.Common.{refl}
use Rattle.client_machine.proofs.machine.Machine.open_block.Goals as goal

pub returns-then-not-charge-clause-ok : goal.returns-then-not-charge-clause-ok
returns-then-not-charge-clause-ok c = λ rest. c.if-not-charge.ensures.stops refl rest _

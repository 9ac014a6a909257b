use Rattle.std.proofs.Common.{subst}
use Rattle.database_protocol.specs.declared.operation.Op.{Op}
use Rattle.database_protocol.specs.declared.answer.Answer.TheVariants.{Blocked}
use Rattle.database_meaning.specs.Steps.{after}
use Rattle.db_core.specs.Represents.{Represents}
use Rattle.db_machine.proofs.writes.wait_at.Goals as goal

pub returns-in-Ok-clause-represents : goal.returns-in-Ok-clause-represents
returns-in-Ok-clause-represents c = λ f rows s holders h.
    subst (λ (o : Op). Represents f rows c.wait_for_key.new.control (after f s c.args.client o (Blocked holders))) c.in-Ok.ensures (c.wait_for_key.ensures.represents f rows s holders h)

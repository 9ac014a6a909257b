use Rattle.db_core.proofs.RefusalLaws.{allowed_to, allowed_from, waiting_same}
use Rattle.db_core.proofs.laws.refusals_are_known.Goals as goal

pub returns-clause-allowed : goal.returns-clause-allowed
returns-clause-allowed c = λ f rows control s schema represents observable is d op.
    (allowed_to f rows control s represents observable schema is d op, allowed_from f rows control s represents observable schema is d op)

pub returns-clause-waiting : goal.returns-clause-waiting
returns-clause-waiting c = λ f rows control s schema represents observable is d. waiting_same f rows control s represents observable schema is d

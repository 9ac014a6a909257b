use Rattle.binder.proofs.Formals.{block_formals}
use Rattle.binder.proofs.signatures.+formals.Goals as goal

pub formals_of-returns-in_ok-formals_in-in-Block : goal.formals_of-returns-in_ok-formals_in-in-Block
formals_of-returns-in_ok-formals_in-in-Block t c =
    block_formals c.args.statement.now c.in-Block.head c.in-Block.body c.deref.result.now c.args.found.now c.formals_in.new.found c.in-Block.is c.deref.ensures.value c.in_ok-formals_in-in-Block.ensures

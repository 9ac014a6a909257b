use Rattle.binder.proofs.Scenes.{opening_is}
use Rattle.binder.proofs.procedures.opening.Goals as goal

pub returns : goal.returns
returns c = λ said is_own.
    opening_is c.args.procedure c.args.block c.args.own.now said c.in_ok-buffers.buffers c.in_ok-named.named c.in_ok-around.around is_own c.in_ok-buffers.ensures c.in_ok-named.ensures c.in_ok-around.ensures

use Rattle.std.proofs.Common.{refl}
use Rattle.database_protocol.specs.declared.operation.Op.TheVariants.{Lock}
use Rattle.db_core.proofs.LockMoves.{waiting_represents, waiting_sound}
use Rattle.db_core.proofs.StayLaws.{counts_of}
use Rattle.db_core.proofs.locks.wait.Goals as goal

pub returns-clause-represents : goal.returns-clause-represents
returns-clause-represents c = λ f rows s holders represents.
    waiting_represents f rows c.args.control.now c.block_at_lock.new.control s c.args.client (Lock c.args.table c.args.row c.args.exclusive c.args.wait) _ refl represents c.in_ok-block_at_lock.ensures.ok holders

pub returns-clause-sound : goal.returns-clause-sound
returns-clause-sound c = λ rows sound. waiting_sound rows c.args.control.now c.block_at_lock.new.control c.args.client (Lock c.args.table c.args.row c.args.exclusive c.args.wait) _ c.in_ok-block_at_lock.ensures.ok tt sound

pub returns-clause-counts : goal.returns-clause-counts
returns-clause-counts c = let waits = c.in_ok-block_at_lock.ensures.ok in counts_of c.args.control.now c.block_at_lock.new.control waits.count waits.sequences waits.frees

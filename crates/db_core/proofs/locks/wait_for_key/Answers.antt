use Rattle.db_core.proofs.LockMoves.{waiting_represents, waiting_sound}
use Rattle.db_core.proofs.StayLaws.{counts_of}
use Rattle.db_core.proofs.locks.wait_for_key.Goals as goal

pub returns-clause-represents : goal.returns-clause-represents
returns-clause-represents c = λ f rows s holders represents.
    waiting_represents f rows c.args.control.now c.block_at_key.new.control s c.args.client c.args.op _ c.requires.keyed represents c.block_at_key.ensures holders

pub returns-clause-sound : goal.returns-clause-sound
returns-clause-sound c = λ rows fits sound. waiting_sound rows c.args.control.now c.block_at_key.new.control c.args.client c.args.op _ c.block_at_key.ensures fits sound

pub returns-clause-counts : goal.returns-clause-counts
returns-clause-counts c = let waits = c.block_at_key.ensures in counts_of c.args.control.now c.block_at_key.new.control waits.count waits.sequences waits.frees

use Rattle.db_core.proofs.Drops.{stay_sound}
use Rattle.db_core.proofs.LockMoves.{granted_represents}
use Rattle.db_core.proofs.StayLaws.{counts_of}
use Rattle.db_core.proofs.locks.grant_lock.Goals as goal

pub returns-clause-represents : goal.returns-clause-represents
returns-clause-represents c = λ f rows s table wait represents free there.
    granted_represents f rows c.args.control.now c.grant.new.control s c.args.client table c.args.row c.args.exclusive represents wait c.in_ok-grant.ensures.ok free there

pub returns-clause-sound : goal.returns-clause-sound
returns-clause-sound c = λ rows sound. stay_sound rows c.args.control.now c.grant.new.control c.args.client _ c.in_ok-grant.ensures.ok.client sound

pub returns-clause-counts : goal.returns-clause-counts
returns-clause-counts c = let grants = c.in_ok-grant.ensures.ok in counts_of c.args.control.now c.grant.new.control grants.client.count grants.sequences grants.frees

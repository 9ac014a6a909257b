use Rattle.std.proofs.Common.{sym, subst, arith}
use Rattle.db_core.specs.declared.control.Control.{Control}
use Rattle.db_core.specs.Represents.{IsSound}
use Rattle.db_core.proofs.Drops.{drop_counted, drop_inside, nothing_open, stay_sound}
use Rattle.db_core.proofs.Quiet.{unblocked_sound}
use Rattle.db_core.proofs.Sound.{sound_counted}
use Rattle.db_core.proofs.StayLaws.{counts_more, counts_wait, next_of}
use Rattle.db_core.proofs.locks.drop_lock.Goals as goal

pub returns-then-depth-gt0-clause-represents : goal.returns-then-depth-gt0-clause-represents
returns-then-depth-gt0-clause-represents c = λ f rows s sound settled represents.
    drop_inside f rows c.args.control.now c.end_wait.new.control s c.args.client c.args.row c.end_wait.ensures (let inside = c.if-depth-gt0.true in let is = c.depth.ensures in omega arith) represents

pub returns-then-depth-gt0-clause-sound : goal.returns-then-depth-gt0-clause-sound
returns-then-depth-gt0-clause-sound c = λ rows sound. unblocked_sound rows c.args.control.now c.end_wait.new.control c.args.client c.end_wait.ensures sound

pub returns-clause-represents : goal.returns-clause-represents
returns-clause-represents c = λ f rows s sound settled represents.
    drop_counted f rows c.args.control.now c.release-freed.new.control c.count_frees.new.control s c.args.client c.args.row sound settled (nothing_open _ (let closed = c.if-depth-gt0.false in let is = c.depth.ensures in omega arith))
    c.release-freed.ensures.drops represents c.release-freed.result c.release-freed.ensures.frees c.release-freed.ensures.freed c.count_frees.ensures

pub returns-clause-sound : goal.returns-clause-sound
returns-clause-sound c = λ rows sound.
    subst (λ (k : Control). IsSound rows k) (sym c.count_frees.ensures) (sound_counted rows c.release-freed.new.control _ (stay_sound rows c.args.control.now c.release-freed.new.control c.args.client _ c.release-freed.ensures.drops.client sound))

pub returns-then-depth-gt0-clause-counts : goal.returns-then-depth-gt0-clause-counts
returns-then-depth-gt0-clause-counts c = next_of c.args.control.now c.end_wait.new.control (counts_wait c.args.control.now c.end_wait.new.control c.args.client c.end_wait.ensures)

pub returns-clause-counts : goal.returns-clause-counts
returns-clause-counts c =
    counts_more c.args.control.now c.release-freed.new.control c.count_frees.new.control c.release-freed.result c.release-freed.ensures.drops.client.count c.release-freed.ensures.drops.sequences c.release-freed.ensures.frees c.count_frees.ensures

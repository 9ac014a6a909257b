use Rattle.db_core.proofs.LevelMoves.{backs_of, leave_represents, leave_sound, two_levels}
use Rattle.std.proofs.Common.{◌∙◌}
use Rattle.db_core.proofs.StayLaws.{counts_of}
use Rattle.db_core.proofs.levels.leave.Goals as goal

pub returns-clause-represents : goal.returns-clause-represents
returns-clause-represents c = λ f rows s keep sound represents.
    let deep = two_levels _ c.requires.inner in
    leave_represents rows c.args.control.now c.end_wait.new.control c.args.client deep.0 sound deep.1 (backs_of c.args.control.now c.pop_mark.new.control c.end_wait.new.control c.args.client deep.0 deep.1 c.pop_mark.ensures c.end_wait.ensures) f s keep represents

pub returns-clause-sound : goal.returns-clause-sound
returns-clause-sound c = λ rows sound.
    let deep = two_levels _ c.requires.inner in
    leave_sound rows c.args.control.now c.end_wait.new.control c.args.client deep.0 sound deep.1 (backs_of c.args.control.now c.pop_mark.new.control c.end_wait.new.control c.args.client deep.0 deep.1 c.pop_mark.ensures c.end_wait.ensures)

pub returns-clause-counts : goal.returns-clause-counts
returns-clause-counts c =
    let popped = c.pop_mark.ensures in
    let ends = c.end_wait.ensures in
    counts_of c.args.control.now c.end_wait.new.control (ends.client.count ∙ popped.count) (ends.sequences ∙ popped.sequences) (ends.frees ∙ popped.frees)

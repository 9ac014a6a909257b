use Rattle.db_core.proofs.Quiet.{quiet_represents, unblocked_sound}
use Rattle.db_core.proofs.StayLaws.{counts_wait}
use Rattle.db_core.proofs.answers.end_request.Goals as goal

pub returns-clause-represents : goal.returns-clause-represents
returns-clause-represents c = λ f rows s op a represents none quiet. quiet_represents f rows c.args.control.now c.end_wait.new.control s c.args.client op a none quiet c.end_wait.ensures represents

pub returns-clause-sound : goal.returns-clause-sound
returns-clause-sound c = λ rows sound. unblocked_sound rows c.args.control.now c.end_wait.new.control c.args.client c.end_wait.ensures sound

pub returns-clause-counts : goal.returns-clause-counts
returns-clause-counts c = counts_wait c.args.control.now c.end_wait.new.control c.args.client c.end_wait.ensures

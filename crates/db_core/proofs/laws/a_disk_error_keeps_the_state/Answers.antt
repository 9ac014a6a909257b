use Rattle.db_core.proofs.Quiet.{stopped_represents, stopped_sound}
use Rattle.db_core.proofs.laws.a_disk_error_keeps_the_state.Goals as goal

pub returns-clause-represents : goal.returns-clause-represents
returns-clause-represents c = λ f old new control s fails h. stopped_represents f old new control s fails h

pub returns-clause-sound : goal.returns-clause-sound
returns-clause-sound c = λ old new control fails h. stopped_sound old new control fails h

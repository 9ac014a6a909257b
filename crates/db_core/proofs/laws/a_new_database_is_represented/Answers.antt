use Rattle.db_core.proofs.Opened.{new_sound, new_represents}
use Rattle.db_core.proofs.laws.a_new_database_is_represented.Goals as goal

pub returns-clause-sound : goal.returns-clause-sound
returns-clause-sound c = new_sound

pub returns-clause-represents : goal.returns-clause-represents
returns-clause-represents c = new_represents

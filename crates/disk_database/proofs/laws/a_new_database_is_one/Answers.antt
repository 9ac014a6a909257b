-- The slots of a new database hold its text, no rows and the initial values.
use Rattle.disk_database.proofs.Reopenings.{new_is}
use Rattle.disk_database.proofs.laws.a_new_database_is_one.Goals as goal

pub returns : goal.returns
returns c = new_is

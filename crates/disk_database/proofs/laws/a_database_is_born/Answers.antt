-- A database in slots is contents of its schema.
use Rattle.disk_database.proofs.Reopenings.{database_born}
use Rattle.disk_database.proofs.laws.a_database_is_born.Goals as goal

pub returns : goal.returns
returns c = database_born

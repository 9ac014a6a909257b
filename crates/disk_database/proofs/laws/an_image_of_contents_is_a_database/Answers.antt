-- Slots of sound contents hold a database.
use Rattle.disk_database.proofs.Reopenings.{database_of}
use Rattle.disk_database.proofs.laws.an_image_of_contents_is_a_database.Goals as goal

pub returns : goal.returns
returns c = database_of

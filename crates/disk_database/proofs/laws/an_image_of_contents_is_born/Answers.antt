-- Sound contents are those of an image that is born.
use Rattle.disk_database.proofs.Reopenings.{born_of}
use Rattle.disk_database.proofs.laws.an_image_of_contents_is_born.Goals as goal

pub returns : goal.returns
returns c = born_of

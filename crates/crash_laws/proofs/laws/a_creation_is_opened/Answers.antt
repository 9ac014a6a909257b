-- Each image is born of the schema, so it is one of a new database.
use Rattle.crash_laws.specs.Disks.{view_of}
use Rattle.crash_laws.proofs.Opened.{creation_opened}
use Rattle.crash_laws.proofs.laws.a_creation_is_opened.Goals as goal

pub returns : goal.returns
returns g c = λ schema made disk is next. ∣ creation_opened schema (view_of g.D.Disk made) (view_of g.D.Disk disk) is next ∣₁

-- An image recovers to what an older one did, which is nothing, or to the new database.
use Rattle.crash_laws.specs.Disks.{view_of}
use Rattle.crash_laws.proofs.Opened.{creation_whole}
use Rattle.crash_laws.proofs.laws.a_creation_is_whole_or_nothing.Goals as goal

pub returns : goal.returns
returns g c = λ schema was now m image slots making from there recovers. ∣ creation_whole schema (view_of g.D.Disk was) (view_of g.D.Disk now) m image slots making from there recovers ∣₁

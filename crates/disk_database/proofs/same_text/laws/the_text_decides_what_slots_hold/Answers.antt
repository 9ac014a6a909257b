-- The canonical text decides all that rows depend on in a schema.
use Rattle.disk_database.proofs.SameTextLemmas.Held.{text_decides_held}
use Rattle.disk_database.proofs.same_text.laws.the_text_decides_what_slots_hold.Goals as goal

pub returns : goal.returns
returns c = text_decides_held

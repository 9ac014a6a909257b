-- The canonical text decides all that rows depend on in a schema.
use Rattle.disk_database.proofs.SameTextLemmas.Held.{text_decides_rows}
use Rattle.disk_database.proofs.same_text.laws.the_text_decides_which_rows_are_read.Goals as goal

pub returns : goal.returns
returns c = text_decides_rows

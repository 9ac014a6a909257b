-- What the views of answers denote.
use Rattle.std.specs.Prelude.{Option, Some, None}
use Rattle.block_meaning.specs.Views as views
use Rattle.record_rules.specs.declared.answers.FoundRow.{FoundRow}
use Rattle.record_rules.specs.declared.answers.Grant.{Grant}
use Rattle.record_rules.specs.declared.answers.Grant.TheVariants as grant

-- the record that a search found
abbrev pub found_row_in : FoundRow → views.FoundRow
found_row_in x = record { cursor = x.cursor; values = x.values }

-- the same, if it found one
abbrev pub found_if : Option FoundRow → Option views.FoundRow
found_if None = None
found_if (Some x) = Some (found_row_in x)

-- the result of a request for a lock
abbrev pub grant_of : Grant → views.Grant
grant_of grant.Granted = views.IsGranted
grant_of grant.Busy = views.IsBusy
grant_of grant.Gone = views.IsGone

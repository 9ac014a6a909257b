-- What a client did: its own events, its end and its output, by the meaning of its source.
use Rattle.std.specs.Prelude.{◌≡◌, ℕ, List}
use Rattle.database_protocol.specs.declared.answer.Answer.{Answer}
use Rattle.database_protocol.specs.declared.event.Event.{Event}
use Rattle.database_protocol.specs.declared.ends.ClientEnd.{ClientEnd}
use Rattle.block_meaning.specs.declared.wants.Piece.{Piece}
use Rattle.block_meaning.specs.State.{Progress}
use Rattle.client_output.specs.declared.section.Section.{Section}
use Rattle.client_output.specs.Sections.{sections_of}
use Rattle.database_meaning.specs.Setting.{Setting}
use Rattle.client_runner.specs.Meant.{AllFit, NoneIsRefused, RefusesOnlyUnsure}
use Rattle.client_threads.specs.session.Along.{IsOnLevels}
use Rattle.client_threads.specs.clients.Outcome.{RanAsMeant}
pub use Rattle.client_threads.specs.clients.Outcome.{own_events}

-- The client, whose run means m and whose source names these outputs, has these events of its own over a database of this setting, ended so
-- and wrote these sections: it did what m means under the answers of these events (`RanAsMeant`). The answers fit their operations, and only
-- operations are Refused that the client's own events before them do not make well formed, and so none of those on levels
pub record ClientOutcome (setting : Setting) (outputs : List (List ℕ)) (m : List Answer → Progress) (own : List Event) (how : ClientEnd) (sections : List Section) : Type 0 where
  pub pieces : List Piece
  pub did : RanAsMeant m own how pieces
  pub wrote : sections ≡ sections_of outputs pieces
  pub fits : AllFit setting own
  pub refused : RefusesOnlyUnsure setting own
  pub unrefused : NoneIsRefused IsOnLevels own

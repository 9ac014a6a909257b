-- What holds during a run: of the clients before they run, and after they have run.
use Rattle.std.specs.Prelude.{◌≡◌, ◌+◌, ◌⊎◌, ℕ, List, [], ◌∷◌, Option, Some, None}
use Rattle.abl_values.specs.declared.schema.TableDef.{TableDef}
use Rattle.database_protocol.specs.declared.ends.ClientEnd.{ClientEnd}
use Rattle.database_protocol.specs.declared.ends.ClientEnd.TheVariants.{NoMemory}
use Rattle.database_protocol.specs.declared.event.Event.{Event}
use Rattle.bound_tree.specs.declared.procedure.Bound.{Bound}
use Rattle.bound_tree.specs.Bound.{source_of}
use Rattle.block_code.specs.declared.code.Code.{Code}
use Rattle.block_code.specs.Code.{IsCompiled}
use Rattle.block_meaning.specs.declared.wants.Piece.{Piece}
use Rattle.block_meaning.specs.Program.{Program}
use Rattle.block_meaning.specs.Meaning.{run}
use Rattle.evaluator.specs.Forms.{AreForms}
use Rattle.value_formats.specs.Imports.{line_at}
use Rattle.client_core.specs.ClientView.{ClientView, HasWritten}
use Rattle.client_core.specs.Refines.{Refines, HasNotBegun}
use Rattle.client_output.specs.declared.section.Section.{Section}
use Rattle.client_output.specs.Sections.{sections_of}
use Rattle.database_meaning.specs.Setting.{Setting}
use Rattle.client_runner.specs.Meant.{AllFit, NoneIsRefused, RefusesOnlyUnsure}
use Rattle.client_threads.specs.session.Along.{IsOnLevels}
use Rattle.client_threads.specs.clients.Outcome.{HasDone, own_events}
use Rattle.client_threads.specs.clients.Ran.{ClientTask}
use Rattle.client_threads.specs.served.Works.{IsProgram, Work}
use Rattle.client_threads.specs.declared.served.clients.EndedClient.{EndedClient}

-- ---- before the clients run

-- the client has not begun, and is to run this program with this number of units. The named outputs have these names
pub record IsToRun (client : ClientView) (names : List (List ℕ)) (p : Program) (units : ℕ) : Type 0 where
  pub begins : HasNotBegun client
  pub refines : Refines client names (run p units) []

-- the client is to run what the code denotes over these tables, with this input and these named ones
abbrev pub IsClientOf : ℕ → List TableDef → Code → List ℕ → List (List ℕ) → ClientView → Type 0
IsClientOf units tables code input inputs client =
    (bound : Bound) (p : Program) → IsCompiled code bound → p.source ≡ source_of bound → p.tables ≡ tables → p.input ≡ input → p.inputs ≡ inputs → AreForms p.forms → p.forms.line_at ≡ line_at →
    IsToRun client bound.outputs.items p units

-- the client is to do its work with this number of units
abbrev pub IsToDo : ℕ → Work → ClientView → Type 0
IsToDo units work client = (p : Program) → IsProgram work p → IsToRun client work.tree.outputs p units

-- and so is each of these clients
abbrev pub AreToDo : ℕ → List Work → List ClientView → Type 0
AreToDo units [] [] = Unit {0}
AreToDo units [] (client ∷ clients) = ⊥
AreToDo units (w ∷ ws) [] = ⊥
AreToDo units (w ∷ ws) (client ∷ clients) = IsToDo units w client × AreToDo units ws clients

-- ---- on threads

-- the client of a task
abbrev pub client_in : {D : Type 0} → ClientTask D → ClientView
client_in task = task.client.client

-- the client and its end, of a task that was run
abbrev pub ended_in : {D : Type 0} → ClientTask D → EndedClient
ended_in task = record { client = task.client.client; end = task.end }

-- ---- after it

-- The client of this number has ended in this trace of a database of this setting. Its execution agrees with its program under its own answers.
-- The answers fit their operations, and only operations are Refused that the client's own events before them do not make well formed, and so
-- none of those on levels
pub record HasEnded (setting : Setting) (trace : List Event) (number : ℕ) (old : ClientView) (new : EndedClient) : Type 0 where
  pub how : ClientEnd
  pub ended : new.end ≡ Some how
  pub done : (names : List (List ℕ)) (p : Program) (units : ℕ) → IsToRun old names p units → HasDone new.client names (run p units) (own_events number trace) how
  pub fits : AllFit setting (own_events number trace)
  pub refused : RefusesOnlyUnsure setting (own_events number trace)
  pub unrefused : (names : List (List ℕ)) (p : Program) (units : ℕ) → IsToRun old names p units → NoneIsRefused IsOnLevels (own_events number trace)

-- and so has each of these clients, which have the numbers from this one on
abbrev pub HaveEnded : Setting → List Event → ℕ → List ClientView → List EndedClient → Type 0
HaveEnded setting trace number [] [] = Unit {0}
HaveEnded setting trace number (old ∷ olds) (new ∷ news) = HasEnded setting trace number old new × HaveEnded setting trace (number + 1) olds news
HaveEnded setting trace number olds news = ⊥

-- the client of this number has ended in this trace of a database of this setting; or there was no memory to begin its phase, and it has no end and no event
abbrev pub HasEndedOrNot : Setting → List Event → ℕ → ClientView → EndedClient → Type 0
HasEndedOrNot setting trace number old new = HasEnded setting trace number old new ⊎ ((new.end ≡ None) × (own_events number trace ≡ []))

-- and so has each of these clients, which have the numbers from this one on
abbrev pub HaveEndedOrNot : Setting → List Event → ℕ → List ClientView → List EndedClient → Type 0
HaveEndedOrNot setting trace number [] [] = Unit {0}
HaveEndedOrNot setting trace number (old ∷ olds) (new ∷ news) = HasEndedOrNot setting trace number old new × HaveEndedOrNot setting trace (number + 1) olds news
HaveEndedOrNot setting trace number olds news = ⊥

-- how a client has ended; NoMemory where it has not
abbrev pub end_or_none : Option ClientEnd → ClientEnd
end_or_none None = NoMemory
end_or_none (Some how) = how

-- the client has written these sections
abbrev pub HasSections : ClientView → List Section → Type 0
HasSections client sections = (names : List (List ℕ)) (pieces : List Piece) → HasWritten client names pieces → sections ≡ sections_of names pieces

-- what is reported of a client: the sections that it has written, and none where it has no end, since it has not begun
abbrev pub AreReported : Option ClientEnd → ClientView → List Section → Type 0
AreReported None client sections = sections ≡ []
AreReported (Some how) client sections = HasSections client sections

-- and so it is of each of these clients
abbrev pub HaveSections : List EndedClient → List (List Section) → Type 0
HaveSections [] [] = Unit {0}
HaveSections [] (sections ∷ parts) = ⊥
HaveSections (ended ∷ clients) [] = ⊥
HaveSections (ended ∷ clients) (sections ∷ parts) = AreReported ended.end ended.client sections × HaveSections clients parts

-- How a command ended: its refusal, its status, and the report of a run.
use Rattle.std.specs.Prelude.{◌≡◌, ◌+◌, ℕ, Bool, true, false, if◌then◌else◌, List, [], ◌∷◌, Option, Some, None}
use Rattle.std.specs.List.{list_any}
use Rattle.host_io.specs.declared.out.Stream.TheVariants.{Output as Standard, Diagnostics}
use Rattle.host_io.specs.Out.{OutState, Writes}
use Rattle.abl_values.specs.Schema.{SchemaData}
use Rattle.database_protocol.specs.declared.answer.Answer.{Answer}
use Rattle.database_protocol.specs.declared.answer.Answer.TheVariants.{Closed}
use Rattle.database_protocol.specs.declared.event.Event.{Event}
use Rattle.database_protocol.specs.declared.ends.ClientEnd.{ClientEnd}
use Rattle.database_protocol.specs.declared.ends.ClientEnd.TheVariants as end
use Rattle.client_output.specs.declared.section.Section.{Section}
use Rattle.command_arguments.specs.declared.parts.Mode.{Mode}
use Rattle.run_report.specs.declared.ending.Report.{Report}
use Rattle.run_report.specs.declared.refusal.Refusal.{Refusal}
use Rattle.run_report.specs.declared.refusal.Refusal.TheVariants.{Client, Disk, Output, NoMemory}
use Rattle.run_report.specs.Report.{run_text, status_lines, status_of}

-- the lines of the status of a refusal were appended to standard error, or a prefix of them where a write failed;
-- standard output is as it was
abbrev pub WritesStatus : List (List ℕ) → List ClientEnd → Option Refusal → OutState → OutState → Type 0
WritesStatus names ends None old new = new ≡ old
WritesStatus names ends (Some refusal) old new = (whole : Bool) × Writes whole Diagnostics (status_lines names ends refusal) old new

-- the status of a refusal, and 0 without one
abbrev pub status_after : Option Refusal → ℕ
status_after None = 0
status_after (Some refusal) = status_of refusal

-- the report of a command that was refused before a run began
pub record IsRefused (names : List (List ℕ)) (cause : Refusal) (old new : OutState) (report : Report) : Type 0 where
  pub refusal : report.refusal ≡ Some cause
  pub status : report.status ≡ status_of cause
  pub trace : report.trace ≡ []
  pub ends : report.ends ≡ []
  pub lines : WritesStatus names [] (Some cause) old new

-- Output, where the report was not written whole
abbrev pub output_refusal : Bool → Option Refusal
output_refusal true = None
output_refusal false = Some Output

-- whether a client was out of memory
abbrev pub is_no_memory : ClientEnd → Bool
is_no_memory end.NoMemory = true
is_no_memory how = false

-- whether a client ended in Error or Stop
abbrev pub is_failure : ClientEnd → Bool
is_failure (end.Error text) = true
is_failure (end.Stop why) = true
is_failure how = false

-- whether one of the clients was out of memory
abbrev pub one_lacks_memory : List ClientEnd → Bool
one_lacks_memory [] = false
one_lacks_memory (how ∷ ends) = if is_no_memory how then true else one_lacks_memory ends

-- the number of the first client that ended in Error or Stop; they have the numbers from this one on
abbrev pub first_failure : ℕ → List ClientEnd → Option ℕ
first_failure number [] = None
first_failure number (how ∷ ends) = if is_failure how then Some number else first_failure (number + 1) ends

abbrev pub failure_refusal : Option ℕ → Bool → Option Refusal
failure_refusal None whole = output_refusal whole
failure_refusal (Some first) whole = Some (Client first)

abbrev pub is_closed : Answer → Bool
is_closed Closed = true
is_closed answer = false

-- whether an event is answered Closed: the disk failed during the run
abbrev pub has_closed : List Event → Bool
has_closed trace = list_any (λ (e : Event). is_closed e.answer) trace

-- the refusal that follows from the ends of clients: out of memory, an end in Error or Stop, and then a fault of the output
abbrev pub refusal_of_ends : List ClientEnd → Bool → Option Refusal
refusal_of_ends ends whole = if one_lacks_memory ends then Some NoMemory else failure_refusal (first_failure 0 ends) whole

-- the refusal of a run in which an event was answered Closed or none, and whose clients ended so: a fault of the disk comes first
abbrev pub refusal_after : Bool → List ClientEnd → Bool → Option Refusal
refusal_after closed ends whole = if closed then Some Disk else refusal_of_ends ends whole

-- the report of a run over this schema whose clients ended so and wrote these sections: its text is on standard output, or a prefix where a
-- write failed, and then the lines on standard error
pub record IsReported (mode : Mode) (schema : SchemaData) (names : List (List ℕ)) (ends : List ClientEnd) (parts : List (List Section)) (old new : OutState) (report : Report) : Type 0 where
  pub ends_are : report.ends ≡ ends
  pub whole : Bool
  pub between : OutState
  pub text : Writes whole Standard (run_text mode schema names parts report.trace) old between
  pub refusal : report.refusal ≡ refusal_after (has_closed report.trace) ends whole
  pub status : report.status ≡ status_after report.refusal
  pub lines : WritesStatus names report.ends report.refusal between new

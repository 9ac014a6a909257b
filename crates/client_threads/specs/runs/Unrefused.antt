-- NO OPERATION ON LEVELS OF A CLIENT OF BLOCK CODE IS REFUSED: what its own events in a trace have for answers, and what it requests next.
use Rattle.std.specs.Prelude.{◌≡◌, ℕ, List, ◌∷◌, ◌++◌}
use Rattle.database_protocol.specs.declared.answer.Answer.TheVariants.{Refused}
use Rattle.database_protocol.specs.declared.event.Event.{Event}
use Rattle.database_protocol.specs.declared.next_step.NextStep.{NextStep}
use Rattle.database_protocol.specs.declared.next_step.NextStep.TheVariants.{Ask}
use Rattle.database_protocol.specs.declared.operation.Op.{Op}
use Rattle.database_meaning.specs.declared.contents.Contents.{Contents}
use Rattle.database_meaning.specs.Setting.{Setting}
use Rattle.database_meaning.specs.Answers.{IsWellFormed}
use Rattle.database_meaning.specs.Traces.{left_by}
use Rattle.database_interface.specs.Step.{IsIllFormed, event_of}
use Rattle.client_runner.specs.Meant.{NoneIsRefused}
use Rattle.client_threads.specs.session.Along.{IsOnLevels}

-- The database answered the client Refused only where the operation was ill formed. A database that keeps the clause `refused` of the trait
-- `Database` does so, where the client does not ask while it is blocked
abbrev pub RefusesRightly : Setting → ℕ → List Event → Type 0
RefusesRightly setting n trace = (before after : List Event) (op : Op) → trace ≡ before ++ event_of n op Refused ∷ after → IsIllFormed setting before n op

-- no operation on levels in these events of client n, in this trace, has the answer Refused; and one that it requests next is well formed
-- in the state that the trace leaves
pub record IsUnrefused (setting : Setting) (contents : Contents) (n : ℕ) (trace own : List Event) (next : NextStep) : Type 0 where
  pub none : NoneIsRefused IsOnLevels own
  pub next_is : (op : Op) → next ≡ Ask op → IsOnLevels op → IsWellFormed setting (left_by setting contents trace) n op

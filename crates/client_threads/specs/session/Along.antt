-- A client and its own events, compared with the meaning of its run.
use Rattle.std.specs.Prelude.{◌≡◌, ◌<◌, ◌≤◌, ℕ, ◌∷◌, ◌++◌, [], List, map}
use Rattle.database_protocol.specs.declared.operation.Op.{Op}
use Rattle.database_protocol.specs.declared.operation.Op.TheVariants.{Enter, Leave, Back, End}
use Rattle.database_protocol.specs.declared.answer.Answer.{Answer}
use Rattle.database_protocol.specs.declared.event.Event.{Event}
use Rattle.database_protocol.specs.declared.ends.ClientEnd.TheVariants.{NoMemory}
use Rattle.database_protocol.specs.declared.next_step.NextStep.{NextStep}
use Rattle.database_protocol.specs.declared.next_step.NextStep.TheVariants.{Ask, Ended}
use Rattle.database_meaning.specs.Setting.{Setting}
use Rattle.block_meaning.specs.declared.wants.Piece.{Piece}
use Rattle.block_meaning.specs.Meaning.{asked}
use Rattle.block_meaning.specs.GivesUp.{GaveUp}
use Rattle.client_core.specs.ClientView.{ClientView, HasWritten}
use Rattle.client_core.specs.Refines.{Agrees, HasGivenUp}
use Rattle.client_core.specs.Work.{IsWaiting}
use Rattle.client_runner.specs.Meant.{Meant, NoneIsRefused, AllFit, IsSureOf}
use Rattle.client_runner.specs.Levels.{levels_left}

abbrev pub answers_in : List Event → List Answer
answers_in own = map (λ (e : Event). e.answer) own

abbrev pub operations_in : List Event → List Op
operations_in own = map (λ (e : Event). e.op) own

-- it waits for the answer to what it requests
abbrev pub WaitsIfAsking : ClientView → NextStep → Type 0
WaitsIfAsking client (Ask op) = IsWaiting client
WaitsIfAsking client (Ended end) = Unit {0}

-- a client whose own events are these, and whose next step this is
pub data Along (client : ClientView) (m : Meant) (own : List Event) (next : NextStep) : Type 0 where
  -- it agrees with m
  AsMeant : WaitsIfAsking client next → Agrees client m.names m.run (answers_in own) next → operations_in own ≡ asked m.run (answers_in own) → Along client m own next
  -- it is out of memory, and requests End
  AsksEnd : WaitsIfAsking client next → (pieces : List Piece) → HasGivenUp client m.names m.run (answers_in own) pieces → next ≡ Ask End → operations_in own ≡ asked m.run (answers_in own) → Along client m own next
  -- it has ended out of memory: the last event is that End
  IsOver : (pieces : List Piece) (before : List Event) (last : Event) → HasWritten client m.names pieces → next ≡ Ended NoMemory → own ≡ before ++ last ∷ [] → last.op ≡ End
      → operations_in before ≡ asked m.run (answers_in before) → GaveUp m.run (answers_in before) pieces → Along client m own next

-- an operation on levels: Enter, Leave, Back or End
abbrev pub IsOnLevels : Op → Type 0
IsOnLevels Enter = Unit {0}
IsOnLevels (Leave keep) = Unit {0}
IsOnLevels (Back depth) = Unit {0}
IsOnLevels End = Unit {0}
IsOnLevels other = ⊥

-- with this number of open levels, a Leave has one to leave, and a Back names one of them
abbrev pub IsOpen : ℕ → Op → Type 0
IsOpen open_levels (Leave keep) = 0 < open_levels
IsOpen open_levels (Back depth) = (0 < depth) × (depth ≤ open_levels)
IsOpen open_levels _ = Unit {0}

-- if the client's own events have answers that fit and no operation on levels was Refused, the next request of m names only levels that these
-- events left open
abbrev pub IsCareful : Meant → Type 0
IsCareful m =
    (setting : Setting) (own : List Event) (op : Op) → operations_in own ≡ asked m.run (answers_in own) → AllFit setting own → NoneIsRefused IsOnLevels own → (m.run (answers_in own)).wants ≡ Ask op → IsOpen (levels_left 0 own) op

-- the client agrees with m, and its next request on levels is well formed if m is careful
pub record Goes (client : ClientView) (m : Meant) (own : List Event) (next : NextStep) : Type 0 where
  pub along : Along client m own next
  pub sure : (setting : Setting) (n : ℕ) (op : Op) → next ≡ Ask op → IsOnLevels op → IsCareful m → AllFit setting own → NoneIsRefused IsOnLevels own → IsSureOf setting n own op

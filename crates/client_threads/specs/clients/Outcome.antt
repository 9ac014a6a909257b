-- What a client of block code did in a run: its own events, its end, and what it wrote.
use Rattle.std.specs.Prelude.{◌≡◌, ℕ, List, [], ◌∷◌, ◌++◌}
use Rattle.database_protocol.specs.declared.operation.Op.TheVariants.{End}
use Rattle.database_protocol.specs.declared.answer.Answer.{Answer}
use Rattle.database_protocol.specs.declared.event.Event.{Event}
use Rattle.database_protocol.specs.declared.ends.ClientEnd.{ClientEnd}
use Rattle.database_protocol.specs.declared.ends.ClientEnd.TheVariants.{NoMemory}
use Rattle.database_protocol.specs.declared.next_step.NextStep.TheVariants.{Ended}
use Rattle.block_meaning.specs.declared.wants.Piece.{Piece}
use Rattle.block_meaning.specs.State.{Progress}
use Rattle.block_meaning.specs.Meaning.{asked}
use Rattle.block_meaning.specs.GivesUp.{GaveUp}
use Rattle.turn_lock.specs.Journal.{own_entries}
use Rattle.client_core.specs.ClientView.{ClientView, HasWritten}
use Rattle.client_runner.specs.Meant.{client_in}
use Rattle.client_threads.specs.session.Along.{answers_in, operations_in}

-- the client's own events in a trace
abbrev pub own_events : ℕ → List Event → List Event
own_events number trace = own_entries client_in number trace

-- what a client did whose run means m: its own events, its end, and the pieces that it wrote
pub data RanAsMeant (m : List Answer → Progress) : List Event → ClientEnd → List Piece → Type 0 where
  -- its operations are those that m requests under its answers, and after them it has ended and written as m says
  ToItsEnd : (own : List Event) (how : ClientEnd) (pieces : List Piece) →
      operations_in own ≡ asked m (answers_in own) → m (answers_in own) ≡ record { written = pieces; wants = Ended how } →
      RanAsMeant m own how pieces
  -- or it was out of memory where m requests one operation more: End was requested in its place, and what was written extends what m
  -- had written at the last answer, and is a prefix of what m writes before it requests an operation again
  GivingUp : (before : List Event) (last : Event) (pieces : List Piece) → last.op ≡ End →
      operations_in before ≡ asked m (answers_in before) → GaveUp m (answers_in before) pieces →
      RanAsMeant m (before ++ last ∷ []) NoMemory pieces

-- the client has ended so after these events of its own, and has written what m says
pub record HasDone (client : ClientView) (names : List (List ℕ)) (m : List Answer → Progress) (own : List Event) (how : ClientEnd) : Type 0 where
  pub pieces : List Piece
  pub has : HasWritten client names pieces
  pub did : RanAsMeant m own how pieces

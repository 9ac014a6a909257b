-- From what the runner says of each client to what its program means.
use Rattle.std.proofs.Common.{ℕ, List, []}
use Rattle.std.specs.Prelude.{Result, Ok, Err, IfOk}
use Rattle.database_protocol.specs.declared.event.Event.{Event}
use Rattle.database_protocol.specs.declared.ends.ClientEnd.{ClientEnd}
use Rattle.database_protocol.specs.declared.next_step.NextStep.{NextStep}
use Rattle.database_meaning.specs.Setting.{Setting}
use Rattle.block_meaning.specs.Program.{Program}
use Rattle.block_meaning.specs.Meaning.{run}
use Rattle.client_core.specs.Refines.{Refines, HasNotBegun}
use Rattle.client_runner.specs.Meant.{Meant}
use Rattle.client_runner.specs.Tasks.{CameToItsEnd, RanToEnd, ByItself, OutOfMemory}
use Rattle.client_threads.specs.session.Along.{Goes, IsCareful, IsOnLevels}
use Rattle.client_threads.specs.declared.session.session.ClientSession.{ClientSession}
use Rattle.client_threads.specs.clients.Outcome.{HasDone, own_events}
use Rattle.client_threads.specs.clients.Ran.{ClientTask, HasRunIn}
use Rattle.client_threads.proofs.ClientsLemmas.Ended.{OnlyGrows, done_at_its_end, done_without_room}

-- what holds of the value at Ok
pub if_ok : {A E : Type 0} (r : Result A E) (P Q : A → Type 0) → ((a : A) → P a → Q a) → IfOk r P → IfOk r Q
if_ok (Ok a) P Q f h = f a h
if_ok (Err e) P Q f h = h

-- what a session of block code says to the runner
abbrev pub begins : ClientSession → Meant → Type 0
begins session m = HasNotBegun session.client × Refines session.client m.names m.run []

abbrev pub along : ClientSession → Meant → List Event → NextStep → Type 0
along session m own next = Goes session.client m own next

abbrev pub suits : ClientSession → Setting → Type 0
suits session setting = Unit {0}

has_done : (session : ClientSession) (m : Meant) (own : List Event) (how : ClientEnd) → OnlyGrows m.run → RanToEnd along session m own how → HasDone session.client m.names m.run own how
has_done session m own how grows (ByItself o h goes) = done_at_its_end session.client m own how goes.along
has_done session m own how grows (OutOfMemory before op n a goes other) = done_without_room session.client m before op n a grows other goes.along

pub has_run : {D : Type 0} (HasSetting : Setting → Type 0) (trace : List Event) (k : ℕ) (old new : ClientTask D)
    → ((p : Program) (units : ℕ) → OnlyGrows (run p units))
    → ((names : List (List ℕ)) (p : Program) (units : ℕ) → IsCareful (record { names = names; run = run p units }))
    → CameToItsEnd begins along suits IsCareful IsOnLevels HasSetting (own_events k trace) old new → HasRunIn HasSetting trace k old new
has_run HasSetting trace k old new grows careful came =
    record {
      how = came.end;
      ended = came.ended;
      done = λ names p units begun. has_done new.client (record { names = names; run = run p units }) (own_events k trace) came.end (grows p units) (came.came (record { names = names; run = run p units }) (begun.begins, begun.refines));
      fits = came.fits;
      refused = came.refused;
      unrefused = λ names p units setting begun is. came.unrefused (record { names = names; run = run p units }) setting (begun.begins, begun.refines) (careful names p units) is tt;
    }

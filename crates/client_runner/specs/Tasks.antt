-- What a task of a run knows.
use Rattle.std.specs.Prelude.{◌≡◌, ◌≢◌, ◌<◌, ◌+◌, ◌++◌, ◌∷◌, ℕ, List, [], length, Option, Some, None, IsSomeAnd, slice_index_or}
use Rattle.database_protocol.specs.declared.event.Event.{Event}
use Rattle.database_protocol.specs.declared.operation.Op.{Op}
use Rattle.database_protocol.specs.declared.operation.Op.TheVariants.{End}
use Rattle.database_protocol.specs.declared.answer.Answer.{Answer}
use Rattle.database_protocol.specs.declared.answer.Answer.TheVariants.{Refused}
use Rattle.database_protocol.specs.declared.ends.ClientEnd.{ClientEnd}
use Rattle.database_protocol.specs.declared.ends.ClientEnd.TheVariants.{NoMemory}
use Rattle.database_protocol.specs.declared.next_step.NextStep.{NextStep}
use Rattle.database_protocol.specs.declared.next_step.NextStep.TheVariants.{Ask, Ended}
use Rattle.database_meaning.specs.Setting.{Setting}
use Rattle.database_meaning.specs.Fits.{Fits}
use Rattle.database_interface.specs.Step.{event_of}
use Rattle.turn_lock.specs.Shared.{Lock}
use Rattle.turn_lock.specs.Passes.{ClientPass}
use Rattle.client_runner.specs.Meant.{Meant, NoneIsRefused, AllFit, RefusesOnlyUnsure}
use Rattle.client_runner.specs.Served.{Serving, IsOneOf}
use Rattle.client_runner.specs.declared.task.Task.{Task}

-- ---- how a client comes to its end

-- what a client did in its own events: it has ended by what is meant under their answers; or there was no memory for the event of an
-- operation that it requested then, and End was requested in its place
pub data RanToEnd {C : Type 0} (along : C → Meant → List Event → NextStep → Type 0) (client : C) (m : Meant) : List Event → ClientEnd → Type 0 where
  ByItself : (own : List Event) (end : ClientEnd) → along client m own (Ended end) → RanToEnd along client m own end
  OutOfMemory : (before : List Event) (op : Op) (n : ℕ) (answer : Answer) → along client m before (Ask op) → op ≢ End →
      RanToEnd along client m (before ++ event_of n End answer ∷ []) NoMemory

-- ---- passes

module _ {D : Type 0} where
  -- the number is of a client of the run that the lock was made for
  abbrev pub IsOneOfLock : Lock (Serving D) → ℕ → Type 0
  IsOneOfLock lock n = IsSomeAnd lock.key (λ key. IsOneOf key.start.value.start n)

  -- the pass of a client, with the client's own events
  abbrev pub client_pass : Lock (Serving D) → ℕ → List Event → ClientPass (Serving D) Event
  client_pass lock n own = record { lock = lock; client = n; list = own }

  -- the events of a pass
  abbrev pub own_in : Option (ClientPass (Serving D) Event) → List Event
  own_in None = []
  own_in (Some p) = p.list

  -- the database that the lock was made of has this setting
  abbrev pub HasSettingAtLock : (D → Setting → Type 0) → Lock (Serving D) → Setting → Type 0
  HasSettingAtLock has_setting lock setting = IsSomeAnd lock.key (λ key. has_setting key.start.value.start.database.value setting)

  -- the database that the lock was made of serves this operation of the client
  abbrev pub ServesAtLock : (D → ℕ → Op → Type 0) → Lock (Serving D) → ℕ → Op → Type 0
  ServesAtLock serves lock n op = IsSomeAnd lock.key (λ key. serves key.start.value.start.database.value n op)

module _ {D : Type 0} (has_setting : D → Setting → Type 0) where
  -- an End of the client was answered, and was not refused
  pub record EndedBy (lock : Lock (Serving D)) (n : ℕ) (before own : List Event) : Type 0 where
    pub answer : Answer
    pub event : own ≡ before ++ event_of n End answer ∷ []
    pub fits : (setting : Setting) → HasSettingAtLock has_setting lock setting → Fits setting.schema End answer
    pub unrefused : (setting : Setting) → HasSettingAtLock has_setting lock setting → answer ≢ Refused

module _ {C D : Type 0} where
  -- the task has its pass of this lock, and no event yet
  abbrev pub IsReady : Lock (Serving D) → Task C D → Type 0
  IsReady lock task = (task.pass ≡ Some (client_pass lock task.number [])) × IsOneOfLock lock task.number

  -- the pass of a task
  abbrev pub pass_of : Lock (Serving D) → Task C D → ClientPass (Serving D) Event
  pass_of lock task = client_pass lock task.number (own_in task.pass)

  abbrev pub HasPass : Lock (Serving D) → Task C D → Type 0
  HasPass lock task = task.pass ≡ Some (pass_of lock task)

  -- the task has its number and its pass, and the client of the other
  pub record IsHandedOut (lock : Lock (Serving D)) (n : ℕ) (old new : Task C D) : Type 0 where
    pub number : new.number ≡ n
    pub has : new.pass ≡ Some (client_pass lock n [])
    pub client : new.client ≡ old.client

  abbrev pub AreHandedOut : Lock (Serving D) → ℕ → List (Task C D) → List (Task C D) → Type 0
  AreHandedOut lock first old new = (k : ℕ) (t : Task C D) → k < length new → IsHandedOut lock (first + k) (slice_index_or old k t) (slice_index_or new k t)

  -- the tasks have the clients and the ends of the others
  abbrev pub AreTheSame : List (Task C D) → List (Task C D) → Type 0
  AreTheSame old new = (k : ℕ) (t : Task C D) → k < length old → ((slice_index_or new k t).client ≡ (slice_index_or old k t).client) × ((slice_index_or new k t).end ≡ (slice_index_or old k t).end)

-- ---- a task at its end

module _ {C D : Type 0} (begins : C → Meant → Type 0) (along : C → Meant → List Event → NextStep → Type 0) (suits : C → Setting → Type 0) (careful : Meant → Type 0) (certain : Op → Type 0) (has_setting : D → Setting → Type 0) where
  -- the client has run to its end: it did what is meant under the answers of its own events, which fit; only operations that were not
  -- sure are Refused, and no certain one where the meaning is careful
  pub record HasRun (lock : Lock (Serving D)) (old new : Task C D) : Type 0 where
    pub number : new.number ≡ old.number
    pub own : List Event
    pub end : ClientEnd
    pub has : new.pass ≡ Some (client_pass lock new.number own)
    pub ended : new.end ≡ Some end
    pub came : (m : Meant) → begins old.client m → RanToEnd along new.client m own end
    pub fits : (setting : Setting) → HasSettingAtLock has_setting lock setting → AllFit setting own
    pub refused : (setting : Setting) → HasSettingAtLock has_setting lock setting → RefusesOnlyUnsure setting own
    pub unrefused : (m : Meant) (setting : Setting) → begins old.client m → careful m → HasSettingAtLock has_setting lock setting → suits old.client setting → NoneIsRefused certain own

module _ {C D : Type 0} (begins : C → Meant → Type 0) (along : C → Meant → List Event → NextStep → Type 0) (suits : C → Setting → Type 0) (careful : Meant → Type 0) (certain : Op → Type 0) where
  -- The client has come to its end: it did what is meant under the answers of these events, its own. In a setting of the database these
  -- answers fit their operations, only operations that were not sure are Refused, and where the client suits the setting and its meaning
  -- is careful, none of the certain operations is Refused
  pub record CameToItsEnd (HasSetting : Setting → Type 0) (own : List Event) (old new : Task C D) : Type 0 where
    pub end : ClientEnd
    pub ended : new.end ≡ Some end
    pub came : (m : Meant) → begins old.client m → RanToEnd along new.client m own end
    pub fits : (setting : Setting) → HasSetting setting → AllFit setting own
    pub refused : (setting : Setting) → HasSetting setting → RefusesOnlyUnsure setting own
    pub unrefused : (m : Meant) (setting : Setting) → begins old.client m → careful m → HasSetting setting → suits old.client setting → NoneIsRefused certain own

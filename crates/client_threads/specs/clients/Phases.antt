-- Clients that run in three phases over one database.
use Rattle.std.specs.Prelude.{◌≡◌, ◌+◌, ◌⊎◌, ℕ, All, List, [], ◌∷◌, ◌++◌, None}
use Rattle.database_protocol.specs.declared.event.Event.{Event}
use Rattle.client_runner.specs.Served.{IsAmong}
use Rattle.database_meaning.specs.Setting.{Setting}
use Rattle.client_threads.specs.clients.Outcome.{own_events}
use Rattle.client_threads.specs.clients.Ran.{ClientTask, HasRunIn}

-- each event is of one of `clients` clients from `first` on
abbrev pub AreOf : ℕ → ℕ → List Event → Type 0
AreOf first clients events = All (λ (e : Event). IsAmong first clients e.client) events

-- the trace has three phases: client 0 alone, then `clients` clients side by side, then one more alone
pub record AreThreePhases (clients : ℕ) (trace : List Event) : Type 0 where
  pub first : List Event
  pub middle : List Event
  pub last : List Event
  pub joined : trace ≡ (first ++ middle) ++ last
  pub of_first : AreOf 0 1 first
  pub of_middle : AreOf 1 clients middle
  pub of_last : AreOf (1 + clients) 1 last

-- the client of this number has come to its end in this trace; or there was no memory to begin its phase, and it has no end and no event
abbrev pub HasRunOrNot : {D : Type 0} → (Setting → Type 0) → List Event → ℕ → ClientTask D → ClientTask D → Type 0
HasRunOrNot HasSetting trace number old new = HasRunIn HasSetting trace number old new ⊎ ((new.end ≡ None) × (own_events number trace ≡ []))

-- and so has each of these clients, which have the numbers from this one on
abbrev pub HaveRunOrNot : {D : Type 0} → (Setting → Type 0) → List Event → ℕ → List (ClientTask D) → List (ClientTask D) → Type 0
HaveRunOrNot HasSetting trace first [] [] = Unit {0}
HaveRunOrNot HasSetting trace first (old ∷ olds) (new ∷ news) = HasRunOrNot HasSetting trace first old new × HaveRunOrNot HasSetting trace (first + 1) olds news
HaveRunOrNot HasSetting trace first olds news = ⊥

-- the clients have no end
abbrev pub AreLeftOut : {D : Type 0} → List (ClientTask D) → Type 0
AreLeftOut {D} tasks = All (λ (t : ClientTask D). t.end ≡ None) tasks

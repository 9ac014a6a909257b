-- The rule of the turn lock, which every step on its table keeps.
-- Word 0 is the number of entries, word 1 the number of tickets drawn, word 2 that of tickets served, and word 3 the number of the next client. Words 4 to 19 are bells, on which threads sleep, and the rule says nothing of them. The one slot has the value, or is out with the seat that has the turn.
use Rattle.std.specs.Prelude.{◌≡◌, ℕ, ◌+◌, ◌%◌, ◌^◌, ◌<◌, ◌≤◌, List, [], ◌∷◌, length, slice_index, Option, Some, ◌⊎◌}
use mathlib.Core.Option.{none, some}
use mathlib.Core.List.{IsPrefix}
use lib.ListN.{get_elem?}
use Rattle.atomic_table.specs.Table.{State}
use Rattle.turn_lock.specs.declared.view.Key.{Key}
use Rattle.turn_lock.specs.declared.view.View.{View}
use Rattle.turn_lock.specs.declared.view.Stage.{Stage}
use Rattle.turn_lock.specs.declared.view.Stage.TheVariants.{Idle, Waits, Holds}
use Rattle.turn_lock.specs.Journal.{own_entries}
use Rattle.turn_lock.specs.View.{queued}

-- f of each, added up
abbrev pub total : {A : Type 0} → (A → ℕ) → List A → ℕ
total f [] = 0
total f (x ∷ xs) = f x + total f xs

module _ {T E : Type 0} where
  abbrev pub parts_of : View T E → ℕ
  parts_of v = v.parts

  abbrev pub queued_of : View T E → ℕ
  queued_of v = queued v.stage

  abbrev pub clients_of : View T E → ℕ
  clients_of v = length v.lists

module _ {E : Type 0} (out : Type 0) (served drawn : ℕ) (bearer : ℕ → ℕ) (log : List E) (j : ℕ) where
  -- the ticket of the seat j was drawn and is not served, and no other seat has it. Who has the value out has the ticket that is to be served next, and its list is the history
  abbrev pub AllowsStage : Stage E → Type 0
  AllowsStage Idle = Unit {0}
  AllowsStage (Waits t) = (served ≤ t) × (t < drawn) × (bearer t ≡ j)
  AllowsStage (Holds t l) = (t ≡ served) × (t < drawn) × (bearer t ≡ j) × (l ≡ log) × out

module _ {T E O : Type 0} (entries : T → List E) (client : E → ℕ) (origin : T → O) where
  -- the client's number was given out, to the seat j alone, and these are its own entries
  abbrev pub Owns : ℕ → ℕ → (ℕ → ℕ) → List E → ℕ → ℕ × List E → Type 0
  Owns first next owner log j p = (first ≤ p.0) × (p.0 < next) × (owner p.0 ≡ j) × (own_entries client p.0 log ≡ p.1)

  -- what the rule says of the view of the seat j
  pub record Fits (key : Key T) (maker : ℕ) (out : Type 0) (next served drawn : ℕ) (bearer owner : ℕ → ℕ) (log : List E) (j : ℕ) (v : View T E) : Type 0 where
    -- a seat that is not spent repeats the key
    pub same : 0 < v.parts → v.key ≡ Some key
    -- it has no more clients and no more tickets than parts
    pub counts : (length v.lists ≤ v.parts) × (queued v.stage ≤ v.parts)
    -- the first seat alone has parts without a client
    pub full : ¬ (j ≡ maker) → v.parts ≤ length v.lists
    -- its clients are its own
    pub lists : (i : ℕ) (p : ℕ × List E) → get_elem? v.lists i ≡ some p → Owns key.first next owner log j p
    -- its ticket is its own
    pub stage : AllowsStage out served drawn bearer log j v.stage

  -- the slot has a value with this list and the key's origin, or is out with the seat that has the turn
  abbrev pub SlotFits : Key T → ℕ → (ℕ → ℕ) → List E → State (Option T) (View T E) → Type 0
  SlotFits key served bearer log s =
      ((x : T) × (s.homes ≡ some (Some x) ∷ []) × (entries x ≡ log) × (origin x ≡ origin key.start.value))
      ⊎ ((v : View T E) × (s.homes ≡ none ∷ []) × (get_elem? s.views (bearer served) ≡ some v) × (v.stage ≡ Holds served log))

  -- There is a history, and the rule says of it and of the table:
  pub record IsKept (key : Key T) (s : State (Option T) (View T E)) : Type 0 where
    -- the history: the list of the value, or of the one that is to be put back
    pub log : List E
    -- how many tickets were drawn, and how many served, without bound
    pub drawn : ℕ
    pub served : ℕ
    -- which seat has each ticket, which has each client, and which is the first
    pub bearer : ℕ → ℕ
    pub owner : ℕ → ℕ
    pub maker : ℕ
    -- what the words are
    pub wide : length s.words ≡ 20
    pub counted : slice_index s.words 0 ≡ length log
    pub tickets : slice_index s.words 1 ≡ drawn % 2 ^ 64
    pub serving : slice_index s.words 2 ≡ served % 2 ^ 64
    pub numbers : slice_index s.words 3 ≡ key.first + total clients_of s.views
    -- the tickets that are drawn and not served are those of the seats
    pub line : drawn ≡ served + total queued_of s.views
    -- no part is lost or made, and there are few
    pub whole : total parts_of s.views ≡ key.seats
    pub small : key.first + key.seats ≤ 65535
    -- no entry has a number that is not given out
    pub fresh : (n : ℕ) → slice_index s.words 3 ≤ n → own_entries client n log ≡ []
    -- the history begins with that of the key's value
    pub begins : IsPrefix (entries key.start.value) log
    pub slot : SlotFits key served bearer log s
    -- each ticket that is drawn and not served is in a view
    pub ticketed : (t : ℕ) → served ≤ t → t < drawn → (v : View T E) × (get_elem? s.views (bearer t) ≡ some v) × ((v.stage ≡ Waits t) ⊎ ((l : List E) × (v.stage ≡ Holds t l)))
    pub each : (j : ℕ) (v : View T E) → get_elem? s.views j ≡ some v → Fits key maker (s.homes ≡ none ∷ []) (slice_index s.words 3) served drawn bearer owner log j v

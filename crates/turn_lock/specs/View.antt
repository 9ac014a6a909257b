-- How the view of a seat is put together, cut and joined.
use Rattle.std.specs.Prelude.{ℕ, ◌+◌, ◌-◌, List, [], ◌∷◌, ◌++◌, Option, Some, None}
use Rattle.turn_lock.specs.declared.view.Key.{Key}
use Rattle.turn_lock.specs.declared.view.View.{View}
use Rattle.turn_lock.specs.declared.view.Stage.{Stage}
use Rattle.turn_lock.specs.declared.view.Stage.TheVariants.{Idle, Waits, Holds}

module _ {E : Type 0} where
  -- the number of the tickets that the seat has
  abbrev pub queued : Stage E → ℕ
  queued Idle = 0
  queued (Waits t) = 1
  queued (Holds t l) = 1

  -- the list of the value that the seat has taken out
  abbrev pub list_out : Stage E → List E
  list_out Idle = []
  list_out (Waits t) = []
  list_out (Holds t l) = l

  -- the same, but the value to put back has this list
  abbrev pub with_list_out : Stage E → List E → Stage E
  with_list_out Idle new = Idle
  with_list_out (Waits t) new = Waits t
  with_list_out (Holds t l) new = Holds t new

  -- the first client of the list, and its own entries
  abbrev pub client_in : List (ℕ × List E) → ℕ
  client_in [] = 0
  client_in (p ∷ ps) = p.0

  abbrev pub list_in : List (ℕ × List E) → List E
  list_in [] = []
  list_in (p ∷ ps) = p.1

module _ {T E : Type 0} where
  abbrev pub view : Option (Key T) → ℕ → List (ℕ × List E) → Stage E → View T E
  view key parts lists stage = record { key = key; parts = parts; lists = lists; stage = stage }

  -- the first seat may make every pass
  abbrev pub first_view : Key T → View T E
  first_view key = view (Some key) key.seats [] Idle

  -- the seat has the pass of one client
  abbrev pub pass_view : Key T → ℕ → List E → Stage E → View T E
  pass_view key n mine stage = view (Some key) 1 ((n, mine) ∷ []) stage

  abbrev pub with_stage : View T E → Stage E → View T E
  with_stage v stage = view v.key v.parts v.lists stage

  -- a seat hands its clients over to a new seat, with one part
  abbrev pub kept_part : View T E → View T E
  kept_part v = view v.key (v.parts - 1) [] v.stage

  abbrev pub handed_part : View T E → View T E
  handed_part v = view v.key 1 v.lists Idle

  -- a seat absorbs another, which is then spent
  abbrev pub joined_view : View T E → View T E → View T E
  joined_view v w = view v.key (v.parts + w.parts) (v.lists ++ w.lists) v.stage

  abbrev pub spent_view : View T E
  spent_view = view None 0 [] Idle

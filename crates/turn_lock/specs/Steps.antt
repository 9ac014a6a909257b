-- What a seat knows after each of its steps: a relation of the seat before, the number found and the seat after.
use Rattle.std.specs.Prelude.{◌≡◌, ℕ, ◌+◌, ◌%◌, ◌^◌, List, [], ◌∷◌, Option, Some}
use mathlib.Core.List.{IsPrefix}
use mathlib.Core.Option.{some}
use lib.ListN.{get_elem?}
use Rattle.atomic_table.specs.Table.{Me}
use Rattle.turn_lock.specs.declared.view.Key.{Key}
use Rattle.turn_lock.specs.declared.view.View.{View}
use Rattle.turn_lock.specs.declared.view.Stage.TheVariants.{Idle, Waits, Holds}
use Rattle.turn_lock.specs.Journal.{own_entries}
use Rattle.turn_lock.specs.View.{view, with_stage, with_list_out, client_in}

module _ {T E : Type 0} where
  -- number: it has the client of the number found, with no entry yet. There is one number not yet found for each pass not yet made
  abbrev pub Numbers : Me (Option T) (View T E) → ℕ → Me (Option T) (View T E) → Type 0
  Numbers m r n = (n ≡ (view m.0.key m.0.parts ((r, []) ∷ []) m.0.stage, m.1)) × ((key : Key T) → m.0.key ≡ Some key → r + m.0.parts ≡ key.first + key.seats)

  -- ticket: it waits with the ticket found
  abbrev pub Draws : Me (Option T) (View T E) → ℕ → Me (Option T) (View T E) → Type 0
  Draws m r n = (t : ℕ) × (r ≡ t % 2 ^ 64) × (n ≡ (with_stage m.0 (Waits t), m.1))

  -- serve: it has no ticket, and the slot is given back
  abbrev pub Serves : Me (Option T) (View T E) → ℕ → Me (Option T) (View T E) → Type 0
  Serves m r n = n ≡ (with_stage m.0 Idle, [])

  -- ring: nothing that it knows changes
  abbrev pub Rings : Me (Option T) (View T E) → ℕ → Me (Option T) (View T E) → Type 0
  Rings m r n = n ≡ m

module _ {T E O : Type 0} (entries : T → List E) (client : E → ℕ) (origin : T → O) where
  -- the value is out with the seat. It has the key's origin, a list that begins with the key's, and in it the clients' own entries
  abbrev pub TakesOut : Key T → View T E → ℕ → Me (Option T) (View T E) → Type 0
  TakesOut key v t n =
      (x : T) × (n ≡ (with_stage v (Holds t (entries x)), (0, Some x) ∷ [])) × (origin x ≡ origin key.start.value) × IsPrefix (entries key.start.value) (entries x)
      × ((i : ℕ) (p : ℕ × List E) → get_elem? v.lists i ≡ some p → own_entries client p.0 (entries x) ≡ p.1)

  -- look: where the number found is its ticket it takes the value out, and else nothing changes
  abbrev pub Looks : Me (Option T) (View T E) → ℕ → Me (Option T) (View T E) → Type 0
  Looks m r n = (key : Key T) (t : ℕ) → m.0.key ≡ Some key → m.0.stage ≡ Waits t → ((r ≡ t % 2 ^ 64) → TakesOut key m.0 t n) × (¬ (r ≡ t % 2 ^ 64) → n ≡ m)

module _ {T E : Type 0} (entries : T → List E) (client : E → ℕ) where
  -- the list to be put back, and with it the client's own entries, are those of the value that now lies in the slot that the seat has
  abbrev pub caught_up : View T E → List (ℕ × Option T) → View T E
  caught_up v ((k, Some x) ∷ c) = view v.key v.parts ((client_in v.lists, own_entries client (client_in v.lists) (entries x)) ∷ []) (with_list_out v.stage (entries x))
  caught_up v _ = v

  -- record: it knows the list of the value that it puts back
  abbrev pub Records : Me (Option T) (View T E) → ℕ → Me (Option T) (View T E) → Type 0
  Records m r n = n ≡ (caught_up m.0 m.1, m.1)

-- What a seat of the table represents: a pass, a turn, or the maker of the passes.
use Rattle.std.specs.Prelude.{◌≡◌, ℕ, ◌<◌, ◌^◌, Bool, List, [], ◌∷◌, ◌++◌, length, Option, Some, None, MatchBool}
use Rattle.atomic_table.specs.declared.shared.Seat.{Seat}
use Rattle.turn_lock.specs.declared.view.Key.{Key}
use Rattle.turn_lock.specs.declared.view.View.{View}
use Rattle.turn_lock.specs.declared.view.Stage.TheVariants.{Idle, Holds}
use Rattle.turn_lock.specs.Journal.{own_entries}
use Rattle.turn_lock.specs.Shared.{Lock, HasOrigin}
use Rattle.turn_lock.specs.Passes.{ClientPass}
use Rattle.turn_lock.specs.Turn.{ClientTurn}
use Rattle.turn_lock.specs.View.{list_out, client_in, list_in, view, pass_view}

module _ {T E : Type 0} where
  -- the lock whose table the seat is of
  abbrev pub lock_of : Seat (Option T) (View T E) → Lock T
  lock_of p = record { table = p.table_id; key = p.me.0.key }

  abbrev pub pass_of : Seat (Option T) (View T E) → ClientPass T E
  pass_of p = record { lock = lock_of p; client = client_in p.me.0.lists; list = list_in p.me.0.lists }

  abbrev pub turn_of : Seat (Option T) (View T E) → ClientTurn T E
  turn_of p = record { lock = lock_of p; client = client_in p.me.0.lists; taken = list_out p.me.0.stage }

  -- the seat has the pass of one client, and no ticket
  abbrev pub HasPass : Seat (Option T) (View T E) → Type 0
  HasPass p = (key : Key T) × (n : ℕ) × (mine : List E) × (p.me ≡ (pass_view key n mine Idle, []))

  -- the seat has the turn of one client. The slot is out with it and empty, and the value that was there has this many entries
  abbrev pub HasTurn : (E → ℕ) → Seat (Option T) (View T E) → ℕ → Type 0
  HasTurn client p count =
      (key : Key T) × (n : ℕ) × (t : ℕ) × (l : List E) × (p.me ≡ (pass_view key n (own_entries client n l) (Holds t l), (0, None) ∷ [])) × (count ≡ length l)

  -- the seat has the turn of one client, with the value to be put back in the slot. Its list is the one taken, and one more entry of the client where it is longer
  abbrev pub PutsBack : (T → List E) → (E → ℕ) → Seat (Option T) (View T E) → Bool → Type 0
  PutsBack entries client p longer =
      (key : Key T) × (n : ℕ) × (t : ℕ) × (l : List E) × (x : T) × (p.me ≡ (pass_view key n (own_entries client n l) (Holds t l), (0, Some x) ∷ []))
      × MatchBool longer ((e : E) × (client e ≡ n) × (entries x ≡ l ++ e ∷ [])) (entries x ≡ l) × (length (entries x) < 2 ^ 64)

  -- the same, but the seat knows the value's list, and the value has an origin that the lock's has
  abbrev pub HasPutBack : {O : Type 0} → (T → List E) → (E → ℕ) → (T → O) → Lock T → Seat (Option T) (View T E) → Type 0
  HasPutBack entries client origin lock p =
      (key : Key T) × (n : ℕ) × (t : ℕ) × (x : T) × (p.me ≡ (pass_view key n (own_entries client n (entries x)) (Holds t (entries x)), (0, Some x) ∷ [])) × HasOrigin origin lock x

  -- the number of passes that the seat may still make
  abbrev pub IsMaker : Seat (Option T) (View T E) → ℕ → Type 0
  IsMaker p left = (key : Key T) × (p.me ≡ (view (Some key) left [] Idle, []))

-- What contracts see of a lock: which it is, and what it was made of.
use Rattle.std.specs.Prelude.{◌≡◌, ℕ, List, Option, Some, None, IsSomeAnd}
use mathlib.Core.List.{IsPrefix}
use Rattle.atomic_table.specs.Seated.{TableId}
use Rattle.turn_lock.specs.declared.view.Key.{Key}

-- which lock it is: its table, and what it was made of. Every lock has a key, and so has whatever is of a lock
pub record Lock (T : Type 0) : Type 0 where
  pub table : TableId
  pub key : Option (Key T)

module _ {T : Type 0} where
  abbrev pub first_in : Option (Key T) → ℕ
  first_in None = 0
  first_in (Some key) = key.first

  abbrev pub seats_in : Option (Key T) → ℕ
  seats_in None = 0
  seats_in (Some key) = key.seats

  -- the number of the first client
  abbrev pub first_of : Lock T → ℕ
  first_of lock = first_in lock.key

  -- how many passes the lock was made with
  abbrev pub seats_of : Lock T → ℕ
  seats_of lock = seats_in lock.key

  -- the lock was made of this value, for this number of clients from the first on
  abbrev pub IsMadeOf : Lock T → T → ℕ → ℕ → Type 0
  IsMadeOf lock value first seats = IsSomeAnd lock.key (λ key. (key.start.value ≡ value) × (key.first ≡ first) × (key.seats ≡ seats))

module _ {T O : Type 0} (origin : T → O) where
  -- the value has the origin of the value that the lock was made of
  abbrev pub HasOrigin : Lock T → T → Type 0
  HasOrigin lock x = IsSomeAnd lock.key (λ key. origin x ≡ origin key.start.value)

module _ {T E O : Type 0} (entries : T → List E) (origin : T → O) where
  -- the value has the origin of the value that the lock was made of, and its list begins with that value's
  abbrev pub Extends : Lock T → T → Type 0
  Extends lock x = IsSomeAnd lock.key (λ key. (origin x ≡ origin key.start.value) × IsPrefix (entries key.start.value) (entries x))

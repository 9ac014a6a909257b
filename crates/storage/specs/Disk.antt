-- What the calls of a disk do to its areas, and what a crash may do between two syncs.
use Rattle.std.specs.Prelude.{◌≡◌, ◌≢◌, ◌⊎◌, ℕ, ◌+◌, ◌-◌, ◌<◌, ◌≤◌, ◌^◌, max, Bool, true, false, List, ◌++◌, length, take, drop, get_or, replicate, IsTrue}
use Rattle.storage.specs.faults.Faults.{Rose}

-- these are the area's bytes from there on, with zeros past its end
abbrev pub Reads : List ℕ → ℕ → List ℕ → Type 0
Reads area at bytes = (i : ℕ) → i < length bytes → get_or bytes i 0 ≡ get_or area (at + i) 0

-- the area with these bytes there, and zeros between its old end and them
abbrev pub overlaid : ℕ → List ℕ → List ℕ → List ℕ
overlaid at bytes old = (take at old ++ replicate (at - length old) 0) ++ bytes ++ drop (at + length bytes) old

-- after a write of n bytes that a crash cuts short: any bytes in the range and past the old end, the same elsewhere
pub record Torn (at n : ℕ) (old new : List ℕ) : Type 0 where
  pub no_shorter : length old ≤ length new
  pub no_longer : length new ≤ max (length old) (at + n)
  pub below : (i : ℕ) → i < length old → i < at → get_or new i 0 ≡ get_or old i 0
  pub above : (i : ℕ) → i < length old → at + n ≤ i → get_or new i 0 ≡ get_or old i 0

-- the other areas are as they were
abbrev pub Others : ℕ → (ℕ → List ℕ) → (ℕ → List ℕ) → Type 0
Others area old new = (k : ℕ) → k ≢ area → new k ≡ old k

-- one area is torn by a write, and the others are as they were
pub record TornIn (area at n : ℕ) (old new : ℕ → List ℕ) : Type 0 where
  pub torn : Torn at n (old area) (new area)
  pub others : Others area old new

-- a call that makes no moment
pub record Stays (was_observable observable : Bool) (was_seen seen : ℕ → List ℕ) (was now : ℕ) (before after : ℕ → (ℕ → List ℕ) → Type 0) : Type 0 where
  pub same_observable : observable ≡ was_observable
  pub same : IsTrue was_observable → seen ≡ was_seen
  pub moment : now ≡ was
  pub nothing_else : (m : ℕ) (image : ℕ → List ℕ) → after m image → before m image
  pub stays : (m : ℕ) (image : ℕ → List ℕ) → before m image → after m image

-- A write or a sync. Each image of the new moment is one of the old moment after this step.
pub record Passes (ok : Bool) (was now : ℕ) (before after : ℕ → (ℕ → List ℕ) → Type 0) (step : (ℕ → List ℕ) → (ℕ → List ℕ) → Type 0) : Type 0 where
  -- at the last moment of all the call fails and makes none
  pub one : (now ≡ was + 1) ⊎ ((ok ≡ false) × (2 ^ 64 ≤ was + 1) × (now ≡ was))
  pub nothing_else : (m : ℕ) (image : ℕ → List ℕ) → m ≤ was → after m image → before m image
  pub stays : (m : ℕ) (image : ℕ → List ℕ) → m ≤ was → before m image → after m image
  pub here : (image : ℕ → List ℕ) → after now image → (d : ℕ → List ℕ) × before was d × step d image

-- the count never falls, rose where the call failed, and stays where it did not
pub record HasCause (was now : ℕ) (ok : Bool) : Type 0 where
  pub later : was ≤ now
  pub rose : ok ≡ false → Rose was now
  pub stays : ok ≡ true → now ≡ was

-- an image is known only where the areas are observable, of no later moment, and with areas of at most 2^40 bytes
pub record IsImage (observable : Bool) (time m : ℕ) (image : ℕ → List ℕ) : Type 0 where
  pub same_observable : IsTrue observable
  pub past : m ≤ time
  pub small : (area : ℕ) → length (image area) ≤ 2 ^ 40

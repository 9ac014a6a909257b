-- Rows in slots, byte for byte: bytes in a chain of slots, and each slot in the chain of one row.
use Rattle.std.specs.Prelude.{◌≡◌, ◌⊎◌, ℕ, ◌+◌, ◌*◌, ◌<◌, ◌≤◌, ◌==◌, if◌then◌else◌, true, false, List, [], ◌∷◌, ◌++◌, length, take, drop, get_or, Some}
use Rattle.std.specs.List.{Contains}
use Rattle.abl_values.specs.Rows.{fragments_of}
use Rattle.row_fragments.specs.Fragments.{AreClear, AreRowSlots, StoredBytes, begins, chain_of, ends, first_or_zero, fragment_bytes, kind_in, row_at}

-- the part of 240 bytes with this number, counted from 0
abbrev pub part : ℕ → List ℕ → List ℕ
part i bytes = take 240 (drop (240 * i) bytes)

-- the slot with the part i of these bytes, in a chain of these slots: it names the next one, and the first slot has the length and the table
abbrev pub chain_slot : ℕ → ℕ → ℕ → List ℕ → List ℕ → ℕ → List ℕ
chain_slot first later table chain bytes i =
    fragment_bytes (if i == 0 then first else later) (get_or chain (i + 1) 0) (if i == 0 then length bytes else 0) (if i == 0 then table else 0) (part i bytes)

-- these slots, in order, hold the bytes in the least number of parts: the first slot is of the first kind, the others of the other
pub record IsChain (slots : ℕ → List ℕ) (first later table : ℕ) (chain bytes : List ℕ) : Type 0 where
  pub count : length chain ≡ fragments_of (length bytes)
  pub each : (i : ℕ) → i < length chain → slots (get_or chain i 0) ≡ chain_slot first later table chain bytes i

-- the slot is in the chain of one row and of no other
pub record IsOfOneRow (slots : ℕ → List ℕ) (slot : ℕ) : Type 0 where
  pub row : ℕ
  pub begun : begins slots row ≡ true
  pub there : Contains (chain_of slots row) slot
  pub only : (other : ℕ) → begins slots other ≡ true → Contains (chain_of slots other) slot → other ≡ row

-- wherever a row begins, its slots are a chain of its bytes, and each slot for rows is free or in the chain of one row
pub record AreChains (slots : ℕ → List ℕ) : Type 0 where
  pub chains : (row : ℕ) (stored : StoredBytes) → row_at slots row ≡ Some stored → IsChain slots 1 2 stored.table (chain_of slots row) stored.bytes
  pub each : (slot : ℕ) → ends slot ≡ false → (kind_in (slots slot) ≡ 0) ⊎ IsOfOneRow slots slot

-- ---- changes

-- slots that are chains, and that have in these places what is read before, are chains with what is read there after
abbrev pub KeepsChains : (ℕ → List ℕ) → (ℕ → List ℕ) → List ℕ → Type 0
KeepsChains before after places =
    (a b : ℕ → List ℕ) → AreChains a → ((k : ℕ) → Contains places k → a k ≡ before k) → ((k : ℕ) → Contains places k → b k ≡ after k) → ((k : ℕ) → ¬ Contains places k → b k ≡ a k) → AreChains b

-- these slots, in order, have the bytes as fragments: the first one is of this kind, with this length and table, the others are further ones
abbrev pub HaveFragments : (ℕ → List ℕ) → List ℕ → ℕ → ℕ → ℕ → List ℕ → Type 0
HaveFragments slots [] kind total table bytes = bytes ≡ []
HaveFragments slots (at ∷ rest) kind total table bytes = (slots at ≡ fragment_bytes kind (first_or_zero rest) total table (take 240 bytes)) × HaveFragments slots rest 2 0 0 (drop 240 bytes)

-- no row begins there yet, or these are the slots that one is read from
abbrev pub AreOwn : (ℕ → List ℕ) → List ℕ → Type 0
AreOwn slots own = (own ≡ []) ⊎ ((begins slots (first_or_zero own) ≡ true) × (own ≡ chain_of slots (first_or_zero own)))

-- One row is written, which was read from the slots `own`, over these and free ones: then the first slots are a chain of its bytes, and the others
-- have zeros
pub record Rewrites (before after : ℕ → List ℕ) (own drawn : List ℕ) (keep table : ℕ) (bytes : List ℕ) : Type 0 where
  pub owned : AreOwn before own
  pub free : (k : ℕ) → Contains drawn k → kind_in (before k) ≡ 0
  pub inside : AreRowSlots (own ++ drawn)
  pub many : keep ≤ length (own ++ drawn)
  pub least : 0 < keep → keep ≡ fragments_of (length bytes)
  pub few : keep ≤ 125
  pub fits : table < 65536
  pub kept : HaveFragments after (take keep (own ++ drawn)) 1 (length bytes) table bytes
  pub freed : AreClear after (drop keep (own ++ drawn))

-- ---- a test

-- from this slot on, these slots have this number of bytes as further fragments, and none of them is without a byte
pub record AreParts (slots : ℕ → List ℕ) (at left : ℕ) (parts : List ℕ) : Type 0 where
  pub bytes : List ℕ
  pub many : length bytes ≡ left
  pub least : 240 * length parts < left + 240
  pub inside : AreRowSlots parts
  pub first : first_or_zero parts ≡ at
  pub fragments : HaveFragments slots parts 2 0 0 bytes

-- a row begins in this slot, and these slots, from which it is read, are a chain of its bytes
pub record IsWhole (slots : ℕ → List ℕ) (row : ℕ) (chain : List ℕ) : Type 0 where
  pub stored : StoredBytes
  pub is_read : row_at slots row ≡ Some stored
  pub listed : chain ≡ chain_of slots row
  pub held : IsChain slots 1 2 stored.table chain stored.bytes

-- whatever row begins in this slot, its slots are no chain of its bytes
abbrev pub IsBroken : (ℕ → List ℕ) → ℕ → Type 0
IsBroken slots row = (stored : StoredBytes) → row_at slots row ≡ Some stored → ¬ IsChain slots 1 2 stored.table (chain_of slots row) stored.bytes

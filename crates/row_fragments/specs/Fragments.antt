-- Rows as chains of fragments in slots: how a chain is read, and what it means that slots hold bytes.
use Rattle.std.specs.Prelude.{◌≡◌, ◌*◌, ℕ, zero, suc, ◌-◌, ◌<◌, ◌≤◌, ◌==◌, ◌||◌, ◌&&◌, nat_le, nat_lt, not, min, Bool, if◌then◌else◌, List, [], ◌∷◌, ◌++◌, take, drop, length, replicate, slice_index, Option, Some, None}
use Rattle.std.specs.List.{Contains}
use Rattle.abl_values.specs.Rows.{number_bytes, number_at_head}

-- ---- one slot

abbrev pub kind_in : List ℕ → ℕ
kind_in slot = slice_index slot 0

abbrev pub used_in : List ℕ → ℕ
used_in slot = number_at_head 2 (drop 2 slot)

-- a free slot has no next one
abbrev pub next_in : List ℕ → ℕ
next_in slot = if kind_in slot == 0 then 0 else number_at_head 4 (drop 4 slot)

abbrev pub table_in : List ℕ → ℕ
table_in slot = number_at_head 2 (drop 12 slot)

-- the row's length, in a first fragment
abbrev pub total_in : List ℕ → ℕ
total_in slot = number_at_head 4 (drop 8 slot)

abbrev pub content_in : List ℕ → List ℕ
content_in slot = take (min (used_in slot) 240) (drop 16 slot)

-- the bytes of a fragment: its kind, how much is used, the next slot, the row's length and table, two zeros, the content, and zeros
abbrev pub head_bytes : ℕ → ℕ → ℕ → List ℕ
head_bytes kind used next = kind ∷ 0 ∷ number_bytes 2 used ++ number_bytes 4 next

abbrev pub row_bytes : ℕ → ℕ → List ℕ
row_bytes total table = number_bytes 4 total ++ number_bytes 2 table

abbrev pub fragment_bytes : ℕ → ℕ → ℕ → ℕ → List ℕ → List ℕ
fragment_bytes kind next total table content =
    (head_bytes kind (length content) next ++ (row_bytes total table ++ 0 ∷ 0 ∷ [])) ++ (content ++ replicate (240 - length content) 0)

-- ---- reading

-- a chain ends at slot 0, and at each other number that is not the number of a slot for rows
abbrev pub ends : ℕ → Bool
ends at = nat_lt at 8192 || nat_le 1048576 at

-- the bytes of at most n fragments from a slot on
unfoldable pub bytes_from : ℕ → (ℕ → List ℕ) → ℕ → List ℕ
bytes_from zero slots at = []
bytes_from (suc n) slots at = if ends at then [] else content_in (slots at) ++ bytes_from n slots (next_in (slots at))

pub record StoredBytes : Type 0 where
  pub table : ℕ
  pub bytes : List ℕ

-- a row begins in the slot
abbrev pub begins : (ℕ → List ℕ) → ℕ → Bool
begins slots row = not (ends row) && (kind_in (slots row) == 1)

-- the row that begins at a slot; a slot of another kind, or outside the slots for rows, is no row
abbrev pub row_at : (ℕ → List ℕ) → ℕ → Option StoredBytes
row_at slots row =
    if begins slots row then Some (record { table = table_in (slots row); bytes = content_in (slots row) ++ bytes_from 124 slots (next_in (slots row)) }) else None

-- ---- holding

abbrev pub first_or_zero : List ℕ → ℕ
first_or_zero [] = 0
first_or_zero (slot ∷ slots) = slot

-- these slots, in order, hold the bytes as the fragments of a chain
abbrev pub Holds : (ℕ → List ℕ) → List ℕ → List ℕ → Type 0
Holds slots [] bytes = bytes ≡ []
Holds slots (at ∷ rest) bytes =
    (content_in (slots at) ≡ take 240 bytes) × (next_in (slots at) ≡ first_or_zero rest) × Holds slots rest (drop 240 bytes)

-- this number of fragments is enough
abbrev pub HasRoomFor : List ℕ → List ℕ → Type 0
HasRoomFor drawn bytes = length bytes ≤ 240 * length drawn

abbrev pub AreDistinct : List ℕ → Type 0
AreDistinct [] = Unit {0}
AreDistinct (at ∷ rest) = ¬ Contains rest at × AreDistinct rest

-- each is the number of a slot for rows
abbrev pub AreRowSlots : List ℕ → Type 0
AreRowSlots [] = Unit {0}
AreRowSlots (at ∷ rest) = (8192 ≤ at) × (at < 1048576) × AreRowSlots rest

-- the first slot, if there is one, is of this kind and has this table
abbrev pub BeginsAs : (ℕ → List ℕ) → List ℕ → ℕ → ℕ → Type 0
BeginsAs slots [] kind table = Unit {0}
BeginsAs slots (at ∷ rest) kind table = (kind_in (slots at) ≡ kind) × (table_in (slots at) ≡ table)

-- the slots of at most n fragments from one on
unfoldable pub slots_from : ℕ → (ℕ → List ℕ) → ℕ → List ℕ
slots_from zero slots at = []
slots_from (suc n) slots at = if ends at then [] else at ∷ slots_from n slots (next_in (slots at))

-- the slots that a row is read from
abbrev pub chain_of : (ℕ → List ℕ) → ℕ → List ℕ
chain_of slots row = row ∷ slots_from 124 slots (next_in (slots row))

-- each of the slots has zeros alone
abbrev pub AreClear : (ℕ → List ℕ) → List ℕ → Type 0
AreClear slots [] = Unit {0}
AreClear slots (at ∷ rest) = (slots at ≡ replicate 256 0) × AreClear slots rest

-- What the slots hold that no row uses: the text of the schema, the sequence values, and nothing in all others.
use Rattle.std.specs.Prelude.{◌≡◌, ◌⊎◌, ℕ, ◌+◌, ◌-◌, ◌*◌, ◌<◌, min, List, length, get_or, ℤ}
use Rattle.abl_values.specs.Rows.{fragments_of}
use Rattle.abl_values.specs.Schema.{SchemaData, canonical_text}
use Rattle.log_meaning.specs.steps.Steps.{Image}
use Rattle.log_meaning.specs.Images.{Recovers}
use Rattle.sequence_slots.specs.Values.{Have64Bits, HoldValues, slot_bytes, values_in}
use Rattle.database_layout.specs.contents.Chains.{chain_slot, counted}
use Rattle.database_layout.specs.contents.Contents.{text_slots, zeros}
use Rattle.database_layout.specs.stored_text.Held.{HoldText}

-- the slots of the schema's text, in order
abbrev pub text_chain : SchemaData → List ℕ
text_chain schema = counted 1 (fragments_of (length (canonical_text schema)))

-- the slot belongs to nothing, where the text of the schema takes this many slots: it is 0, or after the text and below 5,000, or from 5,009 to
-- 8,191
abbrev pub IsUnused : ℕ → ℕ → Type 0
IsUnused text k = (k ≡ 0) ⊎ (((text < k) × (k < 5000)) ⊎ ((5008 < k) × (k < 8192)))

-- each such slot is zeros
abbrev pub AreUnusedLeft : ℕ → (ℕ → List ℕ) → Type 0
AreUnusedLeft text slots = (k : ℕ) → IsUnused text k → slots k ≡ zeros

-- each slot that belongs to nothing in a database of this schema is zeros
abbrev pub LeaveUnused : SchemaData → (ℕ → List ℕ) → Type 0
LeaveUnused schema slots = AreUnusedLeft (text_slots schema) slots

-- how many of n values are in the slot 5,000 + i
abbrev pub values_at : ℕ → ℕ → ℕ
values_at n i = min (n - 30 * i) 30

-- the bytes of a slot that holds the given number of sequence values
pub record AreValues (count : ℕ) (bytes : List ℕ) : Type 0 where
  pub values : List ℤ
  pub many : length values ≡ count
  pub whole : Have64Bits values
  pub are : bytes ≡ slot_bytes values

-- the slot k of a database of this schema may hold these bytes: they are its part of the text, or as many sequence values as belong in it, or
-- zeros where no part belongs in it
pub record HoldsPart (schema : SchemaData) (k : ℕ) (bytes : List ℕ) : Type 0 where
  pub text : (i : ℕ) → i < length (text_chain schema) → k ≡ get_or (text_chain schema) i 0 → bytes ≡ chain_slot 3 3 0 (text_chain schema) (canonical_text schema) i
  pub values : (i : ℕ) → i < 9 → k ≡ 5000 + i → AreValues (values_at (length schema.sequences) i) bytes
  pub unused : IsUnused (text_slots schema) k → bytes ≡ zeros

-- the slots hold the text of the schema and values for its sequences, and leave unused what belongs to nothing
pub record HoldParts (schema : SchemaData) (slots : ℕ → List ℕ) : Type 0 where
  pub text : HoldText slots (canonical_text schema)
  pub values : HoldValues slots (values_in (length schema.sequences) slots)
  pub unused : LeaveUnused schema slots

-- whatever these images recover to holds them
abbrev pub AllHoldParts : SchemaData → (Image → Type 0) → Type 0
AllHoldParts schema images = (image : Image) (slots : ℕ → List ℕ) → images image → Recovers image slots → HoldParts schema slots

-- if all these images did, the slot holds its part
abbrev pub KeptSince : SchemaData → (Image → Type 0) → ℕ → List ℕ → Type 0
KeptSince schema images k bytes = AllHoldParts schema images → HoldsPart schema k bytes

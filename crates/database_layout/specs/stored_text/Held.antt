-- Which slots hold a text as the text of a schema.
use Rattle.std.specs.Prelude.{◌≡◌, ℕ, ◌<◌, ◌≤◌, List, [], length, get_or}
use Rattle.abl_values.specs.Rows.{fragments_of}
use Rattle.database_layout.specs.contents.Chains.{IsChain, chain_slot, counted}

-- the slots from 1 on hold the text, of at most 2^20 bytes, in the least number of parts
pub record HoldText (slots : ℕ → List ℕ) (text : List ℕ) : Type 0 where
  pub short : length text ≤ 1048576
  pub chain : IsChain slots 3 3 0 (counted 1 (fragments_of (length text))) text

-- these are the slots of the text, in order
abbrev pub AreOf : List (List ℕ) → List ℕ → Type 0
AreOf slots text = (i : ℕ) → i < length slots → get_or slots i [] ≡ chain_slot 3 3 0 (counted 1 (length slots)) text i

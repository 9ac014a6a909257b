-- The log of slots with transactions: how the notes since the generation was opened agree with what reads return, with what is committed, and with the writes that can still be undone.
use Rattle.std.specs.Prelude.{◌≡◌, ℕ, Bool, true, false, ◌||◌, List, [], ◌∷◌, ◌++◌, map}
use Rattle.storage.specs.declared.slots.Undo.{Undo}
use Rattle.storage.specs.Slots.{wrote, undone}
use Rattle.log_meaning.specs.declared.note.Note.{Note}
use Rattle.log_meaning.specs.declared.note.Note.TheVariants.{Change as Changed}
use Rattle.log_meaning.specs.Recovered.{changes_of, is_committed, given}

-- these transactions are among those
abbrev pub AreAmong : (ℕ → Bool) → (ℕ → Bool) → Type 0
AreAmong some live = (t : ℕ) → some t ≡ true → live t ≡ true

-- none of these transactions has a write of the slot in its undo list
abbrev pub NoneWrote : (ℕ → Bool) → (ℕ → List Undo) → ℕ → Type 0
NoneWrote some undo slot = (t : ℕ) → some t ≡ true → wrote (undo t) slot ≡ false

-- what the slots recover to where these transactions are committed as well
abbrev pub given_with : (ℕ → Bool) → List Note → (ℕ → List ℕ) → ℕ → List ℕ
given_with some notes base slot = given (λ t. is_committed notes t || some t) (base slot) (changes_of slot notes)

-- The notes of a generation, over area 0 as it was when the generation was opened (`base`). Transactions go by their numbers.
pub record Logged (notes : List Note) (base committed reads : ℕ → List ℕ) (live : ℕ → Bool) (undo : ℕ → List Undo) : Type 0 where
  -- If some live transactions were committed now, each slot that one of them wrote would recover to what it reads,
  pub mine : (some : ℕ → Bool) (tx slot : ℕ) → AreAmong some live → some tx ≡ true → wrote (undo tx) slot ≡ true → given_with some notes base slot ≡ reads slot
  -- and each other slot to its committed bytes.
  pub rest : (some : ℕ → Bool) (slot : ℕ) → AreAmong some live → NoneWrote some undo slot → given_with some notes base slot ≡ committed slot
  -- a slot without a note reads its bytes in area 0
  pub quiet : (slot : ℕ) → changes_of slot notes ≡ [] → reads slot ≡ base slot
  -- a slot that no live transaction wrote reads its committed bytes
  pub free : (slot : ℕ) → NoneWrote live undo slot → reads slot ≡ committed slot
  -- no two live transactions wrote one slot
  pub apart : (t u slot : ℕ) → live t ≡ true → live u ≡ true → wrote (undo t) slot ≡ true → wrote (undo u) slot ≡ true → t ≡ u
  -- undoing all writes of a live transaction restores the committed bytes of its slots
  pub back : (t slot : ℕ) → live t ≡ true → wrote (undo t) slot ≡ true → undone (undo t) reads slot ≡ committed slot
  pub unfinished : (t : ℕ) → live t ≡ true → is_committed notes t ≡ false

-- What a new generation carries of a transaction: a note for each write in its undo list, with the bytes that the slot reads. It does not carry the transaction's notes as they are: a note of an undone write would make the slot older than what another transaction has committed since.
abbrev pub carried_of : ℕ → (ℕ → List ℕ) → List Undo → List Note
carried_of tx reads writes = map (λ u. Changed (record { tx = tx; slot = u.slot; old = u.old; new = reads u.slot })) writes

-- and of these transactions
abbrev pub carried : List ℕ → (ℕ → List ℕ) → (ℕ → List Undo) → List Note
carried [] reads undo = []
carried (tx ∷ txs) reads undo = carried_of tx reads (undo tx) ++ carried txs reads undo

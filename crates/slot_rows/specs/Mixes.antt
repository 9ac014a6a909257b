-- What several clients wrote, each in places of its own, with the later writes of each undone.
use Rattle.std.specs.Prelude.{◌≡◌, ℕ, Bool, true, false, List, Option, drop}
use Rattle.storage.specs.Slots as storage
use Rattle.storage.specs.Slots.{SlotState, Transaction, wrote}
use Rattle.database_meaning.specs.declared.state.StoredRow.{StoredRow}
use Rattle.row_store.specs.declared.store.RowChange.{RowChange}
use Rattle.row_store.specs.Changes.{RowsById, has_change, undone}

-- which places a client wrote, what a place would be with the client's writes from that number on undone, and what it is now
pub record History (V : Type 0) : Type 0 where
  pub wrote : ℕ → ℕ → Bool
  pub back : ℕ → ℕ → ℕ → V
  pub now : ℕ → V

-- the writes of each client from its number on are undone
pub record IsMixed {V : Type 0} (h : History V) (at : ℕ → ℕ) (mixed : ℕ → V) : Type 0 where
  pub of : (c k : ℕ) → h.wrote c k ≡ true → mixed k ≡ h.back c (at c) k
  pub rest : (k : ℕ) → ((c : ℕ) → h.wrote c k ≡ false) → mixed k ≡ h.now k

-- the writes of these transactions, over these slots
abbrev pub writes_of : (ℕ → Transaction) → (ℕ → List ℕ) → History (List ℕ)
writes_of transaction reads = record {
  wrote = λ c. wrote (transaction c).undo;
  back = λ c n. storage.undone (drop n (transaction c).undo) reads;
  now = reads;
}

-- the open transactions' writes of slots
abbrev pub slots_of : SlotState → History (List ℕ)
slots_of s = writes_of s.transaction s.reads

-- the open transactions' changes of rows
abbrev pub rows_of : (ℕ → List RowChange) → RowsById → History (Option StoredRow)
rows_of changes rows = record {
  wrote = λ c. has_change (changes c);
  back = λ c n. undone (drop n (changes c)) rows;
  now = rows;
}

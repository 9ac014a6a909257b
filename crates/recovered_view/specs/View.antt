-- Slots in memory that are only read.
use Rattle.std.specs.Prelude.{◌≡◌, ℕ, ◌==◌, Bool, true, false, if◌then◌else◌, List, [], get_or, replicate, Option, Some, None, IsTrue}
use Rattle.storage.specs.Slots.{SlotState, Transaction}

-- the slot of this list, with zeros past its end
abbrev pub slot_in : List (List ℕ) → ℕ → List ℕ
slot_in slots k = get_or slots k (replicate 256 0)

-- whether the client's transaction is begun
abbrev pub is_begun : Option ℕ → ℕ → Bool
is_begun None c = false
is_begun (Some client) c = c == client

-- A transaction has no write and no memory for one: it counts as one that has made its ten writes of low slots.
abbrev pub transaction_in : Option ℕ → ℕ → Transaction
transaction_in begun c = record { begun = is_begun begun c; undo = []; written = λ k. false; counted = 0; low = if is_begun begun c then 10 else 0; room = 0 }

-- the state of a view: what it reads is committed, and no call fails
abbrev pub viewed : List (List ℕ) → Option ℕ → SlotState
viewed slots begun = record {
  observable = true;
  reads = slot_in slots;
  committed = slot_in slots;
  doubt = slot_in slots;
  transaction = transaction_in begun;
  failed = false;
  faults = 0;
  moment = 0;
  since = 0;
  short = false;
}

-- No transaction is begun, no call has answered Disk, what is read is committed, and no stop is observable.
pub record IsAtRest (s : SlotState) (stop : ℕ → (ℕ → List ℕ) → Type 0) : Type 0 where
  pub observable : IsTrue s.observable
  pub idle : (c : ℕ) → (s.transaction c).begun ≡ false
  pub clean : (c : ℕ) → (s.transaction c).undo ≡ []
  pub fine : s.failed ≡ false
  pub faults : s.faults ≡ 0
  pub settled : (k : ℕ) → s.committed k ≡ s.reads k
  pub certain : (k : ℕ) → s.doubt k ≡ s.committed k
  pub no_stops : (m : ℕ) (slots : ℕ → List ℕ) → stop m slots → ⊥

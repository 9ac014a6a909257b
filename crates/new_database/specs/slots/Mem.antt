-- What the slots in memory mean.
use Rattle.std.specs.Prelude.{ℕ, zero, suc, true, false, List, [], ◌∷◌}
use Rattle.std.specs.HashMap.{HashMap}
use Rattle.storage.specs.Slots.{Transaction, SlotState}
use Rattle.new_database.specs.declared.slots.slot.Slot.{Slot}
use Rattle.new_database.specs.declared.slots.client.Client.{Client}
use Rattle.new_database.specs.slots.Sparse.{slot_in, committed_in, has_written, zeros}

-- the transaction that a client's fields mean
abbrev pub transaction_of : Client → Transaction
transaction_of c = record { begun = c.begun; undo = c.undo.items; written = has_written c.written.items; counted = c.counted; low = c.low; room = c.spare }

-- no transaction
abbrev pub idle : Transaction
idle = record { begun = false; undo = []; written = has_written []; counted = 0; low = 0; room = 0 }

-- the transaction of the client of that number
abbrev pub transaction_in : List Client → ℕ → Transaction
transaction_in [] k = idle
transaction_in (c ∷ cs) zero = transaction_of c
transaction_in (c ∷ cs) (suc k) = transaction_in cs k

-- the state of the array
abbrev pub state_of : {S : Type 0} → HashMap ℕ Slot S → List Client → SlotState
state_of slots clients = record {
  observable = true;
  reads = slot_in slots;
  committed = committed_in slots;
  doubt = committed_in slots;
  transaction = transaction_in clients;
  failed = false;
  faults = 0;
  moment = 0;
  since = 0;
  short = true;
}

-- slots of zeros, with no transaction begun
abbrev pub at_rest : SlotState
at_rest = record {
  observable = true;
  reads = λ _. zeros;
  committed = λ _. zeros;
  doubt = λ _. zeros;
  transaction = λ _. idle;
  failed = false;
  faults = 0;
  moment = 0;
  since = 0;
  short = true;
}

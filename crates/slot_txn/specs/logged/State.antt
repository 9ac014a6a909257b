-- The state of the slots, from what the fields hold and what the disk reads.
use Rattle.std.specs.Prelude.{ℕ, max, Bool, if◌then◌else◌, List, Option, Some, None}
use Rattle.storage.specs.declared.slots.Undo.{Undo}
use Rattle.storage.specs.Slots.{SlotState, undone}
use Rattle.storage.specs.faults.Faults.{counted}
use Rattle.open_transactions.specs.declared.client.Client.{Client}
use Rattle.open_transactions.specs.Clients.{transaction_in, lists, lists_but, due}

-- the writes that are not committed where the commit in doubt is
abbrev pub in_doubt : Option ℕ → List Client → List Undo
in_doubt None clients = lists clients
in_doubt (Some client) clients = lists_but client clients

-- the faults of the disk, and one more where the log can have no next generation
abbrev pub faults_of : Bool → ℕ → ℕ
faults_of exhausted faults = if exhausted then max faults (counted faults) else faults

-- The slots read as the frames and area 0 have them (`view`) with what is due undone. What is committed is what undoing all writes gives.
abbrev pub state_of : Bool → (ℕ → List ℕ) → ℕ → ℕ → List Client → Bool → Option ℕ → ℕ → Bool → SlotState
state_of observable view moment faults clients failed doubtful since short = record {
  observable = observable;
  reads = undone (due clients) view;
  committed = undone (lists clients) view;
  doubt = undone (in_doubt doubtful clients) view;
  transaction = transaction_in clients;
  failed = failed;
  faults = faults;
  moment = moment;
  since = since;
  short = short;
}

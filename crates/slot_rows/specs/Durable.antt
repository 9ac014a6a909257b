-- What slots decode to after a stop.
use Rattle.std.specs.Prelude.{◌≡◌, ℕ, List, length}
use Rattle.storage.specs.Slots.{SlotState}
use Rattle.abl_values.specs.Schema.{SchemaData}
use Rattle.row_store.specs.Rows.{Durable}
use Rattle.row_store.specs.Times.{Times}
use Rattle.sequence_slots.specs.Values.{values_in}
use Rattle.slot_rows.specs.Decoded.{decoded}

-- the rows and the sequence values in these slots
abbrev pub durable_in : SchemaData → (ℕ → List ℕ) → Durable
durable_in schema slots = record { rows = decoded schema slots; sequences = values_in (length schema.sequences) slots }

-- a stop at that moment may leave this: it may leave slots that decode to it
abbrev pub left_in : SchemaData → (ℕ → (ℕ → List ℕ) → Type 0) → ℕ → Durable → Type 0
left_in schema stop m durable = (slots : ℕ → List ℕ) × stop m slots × (durable ≡ durable_in schema slots)

-- the moments of the slots, and what the slots in doubt decode to
abbrev pub times_in : SchemaData → SlotState → Times
times_in schema s = record { moment = s.moment; since = s.since; doubt = durable_in schema s.doubt }

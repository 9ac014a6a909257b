-- What holds between two calls holds after a row was given other values, or was deleted.
use Rattle.std.proofs.Common.{◌≡◌, ◌≢◌, ℕ, ◌<◌, ◌≤◌, Bool, true, false, cond, List, length, slice_index_or, slice_set, Option, Some, None, is_some, Result, Ok, Err, OnOk, OnErr, IsErrOf, ℤ, refl, sym, ap, ◌∙◌, arith}
use Rattle.abl_base.specs.declared.value.Value.{Value}
use Rattle.storage.specs.Slots.{SlotState, IsReadable, KeepsCommitted, Rests}
use Rattle.abl_values.specs.Schema.{SchemaData}
use Rattle.database_meaning.specs.declared.state.StoredRow.{StoredRow}
use Rattle.database_meaning.specs.Setting.{FitsTable, HasTable, fragments}
use Rattle.row_fragments.specs.Calls.{Touched}
use Rattle.row_fragments.specs.Fragments.{StoredBytes, begins, table_in}
use Rattle.byte_rows.specs.declared.places.Place.{Place as SlotPlace}
use Rattle.byte_rows.specs.declared.client.Client.{Client}
use Rattle.byte_rows.specs.declared.fault.ChainFault.{ChainFault}
use Rattle.byte_rows.specs.declared.fault.ChainFault.TheVariants.{Slot}
use Rattle.storage.specs.declared.slots.SlotFault.TheVariants.{Disk as SlotDisk}
use Rattle.byte_rows.specs.Noted.{IsSound}
use Rattle.byte_rows.specs.Rows.{ChangesRow as ChangesSlots, of_slots}
use Rattle.abl_values.specs.Rows.{bytes_of_row, fragments_of}
use Rattle.row_store.specs.Rows as rows
use Rattle.slot_rows.specs.declared.log.Undone.{Undone}
use Rattle.slot_rows.specs.declared.open.Open.{Open}
use Rattle.slot_rows.specs.Decoded.{decoded, is_read, or_no_table, row_of, values_of}
use Rattle.slot_rows.specs.Opens.{OpenView, log_in, open_in, touched_in, view_of, with_change}
use Rattle.slot_rows.specs.State.{Reserved, ReservesMoved, state_of}
use Rattle.slot_rows.specs.Stored.{IsStored}
use Rattle.slot_rows.proofs.Changed.{changed_state, changed_stored}
use Rattle.slot_rows.proofs.Methods.{begun_touched, encoded_is, old_view, others_are, own_is, refused_stored, same_all}

-- ---- the row before the change

same_values : (a b : StoredRow) → Some a ≡ Some b → a ≡ b
same_values a b e = cc

-- a row of a table of the schema is one that was read
read_of_row : (schema : SchemaData) (table : ℕ) (values : Option (List Value)) (before : StoredRow) → HasTable schema before.table → Some (or_no_table schema table values) ≡ Some before → (is_some values ≡ true) × (table ≡ before.table)
read_of_row schema table None before has e =
    let same : length schema.tables ≡ before.table = ap (λ (r : StoredRow). r.table) (same_values (or_no_table schema table None) before e) in
    absurd (omega (arith, has, same))
read_of_row schema table (Some vs) before has e = (refl, ap (λ (r : StoredRow). r.table) (same_values (record { table = table; values = vs }) before e))

row_begins : (schema : SchemaData) (b : Bool) (stored : StoredBytes) (before : StoredRow) → row_of schema (cond b (Some stored) None) ≡ Some before → b ≡ true
row_begins schema false stored before e = absurd (cc e)
row_begins schema true stored before e = refl

row_table : (schema : SchemaData) (b : Bool) (stored : StoredBytes) (before : StoredRow) → HasTable schema before.table → row_of schema (cond b (Some stored) None) ≡ Some before → stored.table ≡ before.table
row_table schema false stored before has e = absurd (cc e)
row_table schema true stored before has e = (read_of_row schema stored.table (values_of schema stored) before has e).1

-- a row that is decoded begins
pub row_there : (schema : SchemaData) (reads : ℕ → List ℕ) (row : ℕ) (before : StoredRow) → decoded schema reads row ≡ Some before → begins reads row ≡ true
row_there schema reads row before e = row_begins schema (begins reads row) _ before e

-- in a slot of its table
table_there : (schema : SchemaData) (reads : ℕ → List ℕ) (row : ℕ) (before : StoredRow) → HasTable schema before.table → decoded schema reads row ≡ Some before → table_in (reads row) ≡ before.table
table_there schema reads row before has e = row_table schema (begins reads row) _ before has e

-- ---- the change

module _ (schema : SchemaData) (s t : SlotState) (was : List Open) (client : ℕ) (old x : Open) (sixteen : length was ≡ 16) (lt : client < 16) (old_is : old ≡ slice_index_or was client old)
    (places : List SlotPlace) (free : ℕ → ℕ) (clients : List Client) (failed : Bool) (sound : IsSound s places free clients failed)
    (left_places : List SlotPlace) (left_free : ℕ → ℕ) (left_clients : List Client) (left_failed : Bool) (still_sound : IsSound t left_places left_free left_clients left_failed)
    (stored : IsStored schema s (log_in was) (touched_in was)) (fine : s.failed ≡ false) (begun : (s.transaction client).begun ≡ true)
    (row : ℕ) (before : Option StoredRow) (to : Option StoredBytes) (value : Option StoredRow) (had many : ℕ)
    (there : IsReadable s → decoded schema s.reads row ≡ before) (value_is : IsReadable s → value ≡ row_of schema to) (read : IsReadable s → is_read schema to ≡ true)
    (had_is : had ≡ fragments before) (many_is : many ≡ fragments value) (few : many ≤ 125) where
  abbrev u : Undone
  u = record { row = row; old = before; mark = length (s.transaction client).undo; before = had; after = many }

  -- what the change says of slots and of the client's transaction
  abbrev pub Replaces : Type 0
  Replaces = (slots : List ℕ) × ChangesSlots s t client row slots to × (view_of x ≡ with_change (view_of old) u)

  noted_now : view_of x ≡ with_change (view_of old) u → open_in (slice_set was client x) client ≡ with_change (open_in was client) u
  noted_now e = own_is was client old x sixteen lt old_is ∙ (e ∙ ap (λ (v : OpenView). with_change v u) (sym (old_view was client old x sixteen lt old_is)))

  many_of : IsReadable s → many ≡ fragments (row_of schema to)
  many_of readable = many_is ∙ ap fragments (value_is readable)

  module _ (touched : (c : ℕ) → c ≢ client → t.transaction c ≡ s.transaction c) (still : (t.transaction client).begun ≡ (s.transaction client).begun) (keeps : KeepsCommitted s t) (ok : Replaces) where
    replaced_stored : IsStored schema t (log_in (slice_set was client x)) (touched_in (slice_set was client x))
    replaced_stored = changed_stored schema s t was (slice_set was client x) client row ok.0 to u places free clients failed sound left_places left_free left_clients left_failed still_sound stored fine begun (still ∙ begun)
        keeps touched ok.1 refl refl (λ readable. sym (there readable)) had_is many_of few read (noted_now ok.2) (others_are was client old x sixteen lt old_is)

    pub replace_says : (reserved after : Reserved) (sequences : List ℤ) → ReservesMoved schema reserved after client before value
        → rows.ChangesRow (state_of schema reserved sequences s was) (state_of schema after sequences t (slice_set was client x)) client row value
    replace_says = changed_state schema s t was (slice_set was client x) client row ok.0 to u places free clients failed sound left_places left_free left_clients left_failed still_sound stored fine begun (still ∙ begun)
        keeps touched ok.1 refl refl (λ readable. sym (there readable)) had_is many_of few read (noted_now ok.2) (others_are was client old x sixteen lt old_is) value value_is many_is

  pub replace_keeps : (at_s at_t : ℕ → (ℕ → List ℕ) → Type 0) (r : Result Unit ChainFault) → OnOk r Replaces → Touched s t at_s at_t client (of_slots r)
      → ((IsErrOf r (Slot SlotDisk) → ⊥) → OnErr r (Rests s t)) → OnErr r (view_of x ≡ view_of old) → IsStored schema t (log_in (slice_set was client x)) (touched_in (slice_set was client x))
  replace_keeps at_s at_t (Ok v) ok touched refused same = replaced_stored touched.others touched.begun touched.keeps ok
  replace_keeps at_s at_t (Err fault) ok touched refused same =
      refused_stored schema s t was (slice_set was client x) (same_all was client old x sixteen lt old_is same) stored fault (λ never. refused (λ e. never (cc e))) touched.cause
      (begun_touched s t at_s at_t client (of_slots {T = Unit {0}} (Err fault)) touched)

-- ---- what a put leaves is read back

-- the row that a put wrote: its table is that of the row before
pub put_is : (schema : SchemaData) (reads : ℕ → List ℕ) (row : ℕ) (before : StoredRow) (values : List Value) (encoded : List ℕ) → decoded schema reads row ≡ Some before
    → HasTable schema before.table → FitsTable schema before.table values → encoded ≡ bytes_of_row values
    → row_of schema (Some (record { table = table_in (reads row); bytes = encoded })) ≡ Some (record { table = before.table; values = values })
put_is schema reads row before values encoded there has_table fits is =
    ap (λ (n : ℕ). row_of schema (Some (record { table = n; bytes = encoded }))) (table_there schema reads row before has_table there) ∙ encoded_is schema before.table values encoded has_table fits is

pub put_reads : (schema : SchemaData) (stored : StoredBytes) (row : StoredRow) → HasTable schema row.table → row_of schema (Some stored) ≡ Some row → is_read schema (Some stored) ≡ true
put_reads schema stored row has e = (read_of_row schema stored.table (values_of schema stored) row has e).0

-- a row of 30,000 bytes at most has at most 125 fragments
pub few_fragments : (bytes : ℕ) → bytes ≤ 30000 → fragments_of bytes ≤ 125
few_fragments bytes le = omega (arith, le)

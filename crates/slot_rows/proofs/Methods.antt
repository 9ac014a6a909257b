-- What holds between two calls holds after each call of `StoredRows`.
use Rattle.std.proofs.Common.{◌≡◌, ◌≢◌, inl, inr, ℕ, ◌<◌, ◌≤◌, ◌&&◌, not, nat_lt, Bool, true, false, cond, eqb, List, length, slice_index_or, slice_set, take, Option, Some, None, Result, Ok, Err, OnOk, OnErr, ℤ, refl, sym, ap, ◌∙◌, subst, arith}
use Rattle.std.proofs.lemmas.Bool.{cases_eq}
use Rattle.std.proofs.lemmas.Bool.Decides.{nat_tests}
use Rattle.abl_base.specs.declared.value.Value.{Value}
use Rattle.storage.specs.Slots.{SlotState, Transaction, Begins, Ends, GoesBack, HasCause, Rests}
use Rattle.storage.specs.declared.slots.SlotFault.{SlotFault}
use Rattle.storage.specs.declared.slots.SlotFault.TheVariants.{Disk as SlotDisk, TxFull, NoMemory as SlotMemory}
use Rattle.abl_values.specs.Schema.{SchemaData}
use Rattle.abl_values.specs.Rows.{bytes_of_row, fragments_of}
use Rattle.abl_values.specs.Rows as bytes
use Rattle.abl_values.proofs.RowLaws.{row_in-bytes}
use Rattle.database_meaning.specs.Setting.{FitsTable, HasTable, kinds_of}
use Rattle.row_fragments.specs.Calls.{Touched}
use Rattle.row_fragments.specs.Fragments.{begins, ends, kind_in}
use Rattle.row_fragments.proofs.Chained.{no_row_at}
use Rattle.byte_rows.specs.declared.places.Place.{Place as SlotPlace}
use Rattle.byte_rows.specs.declared.client.Client.{Client}
use Rattle.byte_rows.specs.declared.fault.ChainFault.{ChainFault}
use Rattle.byte_rows.specs.declared.fault.ChainFault.TheVariants.{Full, Slot}
use Rattle.byte_rows.specs.Exact.{IsVacant}
use Rattle.byte_rows.specs.Noted.{IsSound}
use Rattle.byte_rows.specs.Rows.{of_slots}
use Rattle.row_store.specs.Rows as rows
use Rattle.slot_rows.specs.declared.open.Open.{Open}
use Rattle.slot_rows.specs.Decoded.{decoded, or_no_table, row_of}
use Rattle.slot_rows.specs.Opens.{OpenView, log_in, no_open, open_in, touched_in, view_of}
use Rattle.slot_rows.specs.State.{Reserved, state_of}
use Rattle.slot_rows.specs.Stored.{IsStored, mark_or}
use Rattle.slot_rows.proofs.Assembles.{stored_failed, stored_rests}
use Rattle.slot_rows.proofs.Begun.{begun_state, begun_stored}
use Rattle.slot_rows.proofs.Changed.{open_at, open_set_other, open_set_same, stored_same}
use Rattle.slot_rows.proofs.Marks.{mark_bound}
use Rattle.slot_rows.proofs.Returned.{abandoned_failed, abandoned_rows, abandoned_state, abandoned_stored, back_state, back_stored}

-- a refused call changes no transaction
pub refused_stored : {U : Type 0} (schema : SchemaData) (s t : SlotState) (was now : List Open) → ((c : ℕ) → open_in now c ≡ open_in was c) → IsStored schema s (log_in was) (touched_in was)
    → (fault : ChainFault) → ((fault ≡ Slot SlotDisk → ⊥) → Rests s t) → HasCause {T = U} s t (of_slots (Err fault)) → ((c : ℕ) → (t.transaction c).begun ≡ (s.transaction c).begun) → IsStored schema t (log_in now) (touched_in now)
refused_stored schema s t was now same stored (Slot SlotDisk) rests cause begun = stored_same schema t was now same (stored_failed schema s t (log_in was) (touched_in was) (cause.failed refl) begun stored)
refused_stored schema s t was now same stored (Slot TxFull) rests cause begun = stored_same schema t was now same (stored_rests schema s t (log_in was) (touched_in was) (rests (λ e. cc e)) (cause.stays (λ e. cc e)) stored)
refused_stored schema s t was now same stored (Slot SlotMemory) rests cause begun = stored_same schema t was now same (stored_rests schema s t (log_in was) (touched_in was) (rests (λ e. cc e)) (cause.stays (λ e. cc e)) stored)
refused_stored schema s t was now same stored Full rests cause begun = stored_same schema t was now same (stored_rests schema s t (log_in was) (touched_in was) (rests (λ e. cc e)) (cause.stays (λ e. cc e)) stored)

pub begun_rests : (s t : SlotState) → Rests s t → (c : ℕ) → (t.transaction c).begun ≡ (s.transaction c).begun
begun_rests s t r c = ap (λ (f : ℕ → Transaction). (f c).begun) r.transaction

pub begun_touched : {T : Type 0} (s t : SlotState) (at_s at_t : ℕ → (ℕ → List ℕ) → Type 0) (client : ℕ) (r : Result T SlotFault) → Touched s t at_s at_t client r → (c : ℕ) → (t.transaction c).begun ≡ (s.transaction c).begun
begun_touched s t at_s at_t client r touched c = elim (cases_eq c client) [
  | inl e ↦ ap (λ (d : ℕ). (t.transaction d).begun) e ∙ (touched.begun ∙ ap (λ (d : ℕ). (s.transaction d).begun) (sym e))
  | inr ne ↦ ap (λ (x : Transaction). x.begun) (touched.others c ne)
]

-- the row that was encoded is read back
pub encoded_is : (schema : SchemaData) (table : ℕ) (values : List Value) (stored : List ℕ) → HasTable schema table → FitsTable schema table values → stored ≡ bytes_of_row values
    → row_of schema (Some (record { table = table; bytes = stored })) ≡ Some (record { table = table; values = values })
encoded_is schema table values stored has_table fits is =
    ap (λ (b : Bool). Some (or_no_table schema table (cond b (bytes.row_in (kinds_of schema table) stored) None))) within
    ∙ ap (λ (o : Option (List Value)). Some (or_no_table schema table o)) (ap (bytes.row_in (kinds_of schema table)) is ∙ row_in-bytes (kinds_of schema table) values fits)
  where
    within : nat_lt table (length schema.tables) ≡ true
    within = grind (arith, nat_tests)

not_begins : (a : Bool) (kind : ℕ) → kind ≡ 0 → (not a && eqb kind 1) ≡ false
not_begins true kind e = refl
not_begins false kind e = ap (λ (k : ℕ). eqb k 1) e

pub vacant_none : (schema : SchemaData) (s : SlotState) (row : ℕ) → IsVacant s row → None ≡ decoded schema s.reads row
vacant_none schema s row v = sym (ap (row_of schema) (no_row_at s.reads row (not_begins (ends row) (kind_in (s.reads row)) v.empty)))

-- ---- one client's transaction is another

module _ (was : List Open) (client : ℕ) (old x : Open) (many : length was ≡ 16) (lt : client < 16) (old_is : old ≡ slice_index_or was client old) where
  pub own_is : open_in (slice_set was client x) client ≡ view_of x
  own_is = open_set_same was client x (omega (arith, many, lt))

  pub old_view : open_in was client ≡ view_of old
  old_view = open_at was client old (omega (arith, many, lt)) old_is

  pub others_are : (c : ℕ) → c ≢ client → open_in (slice_set was client x) c ≡ open_in was c
  others_are c ne = open_set_other was client c x ne

  pub same_all : view_of x ≡ view_of old → (c : ℕ) → open_in (slice_set was client x) c ≡ open_in was c
  same_all same c = elim (cases_eq c client) [
    | inl e ↦ ap (open_in (slice_set was client x)) e ∙ (own_is ∙ (same ∙ (sym old_view ∙ ap (open_in was) (sym e))))
    | inr ne ↦ others_are c ne
  ]

module _ (schema : SchemaData) (s t : SlotState) (was : List Open) (client : ℕ) (old x : Open) (many : length was ≡ 16) (lt : client < 16) (old_is : old ≡ slice_index_or was client old)
    (places : List SlotPlace) (free : ℕ → ℕ) (clients : List Client) (failed : Bool) (sound : IsSound s places free clients failed)
    (left_places : List SlotPlace) (left_free : ℕ → ℕ) (left_clients : List Client) (left_failed : Bool) (still_sound : IsSound t left_places left_free left_clients left_failed)
    (stored : IsStored schema s (log_in was) (touched_in was)) where
  abbrev now : List Open
  now = slice_set was client x

  own_now : open_in (slice_set was client x) client ≡ view_of x
  own_now = own_is was client old x many lt old_is

  was_view : open_in was client ≡ view_of old
  was_view = old_view was client old x many lt old_is

  rest_now : (c : ℕ) → c ≢ client → open_in (slice_set was client x) c ≡ open_in was c
  rest_now = others_are was client old x many lt old_is

  -- ---- back

  module _ (n : ℕ) (fine : s.failed ≡ false) (begun : (s.transaction client).begun ≡ true) where
    mark_same : mark_or old.log.items n (length (s.transaction client).undo) ≡ mark_or (log_in was client) n (length (s.transaction client).undo)
    mark_same = ap (λ (v : OpenView). mark_or v.log n (length (s.transaction client).undo)) (sym was_view)

    pub mark_within : mark_or old.log.items n (length (s.transaction client).undo) ≤ length (s.transaction client).undo
    mark_within = let le = mark_bound 0 (length (s.transaction client).undo) (log_in was client) (stored.marks fine client) n in omega (arith, mark_same, le)

    cut_now : view_of x ≡ record { log = take n old.log.items; touched = old.touched.items; drawn = old.drawn; written = old.written }
        → open_in (slice_set was client x) client ≡ record { log = take n (log_in was client); touched = touched_in was client; drawn = (open_in was client).drawn; written = (open_in was client).written }
    cut_now is = own_now ∙ (is ∙ ap cut_view (sym was_view))
      where
        cut_view : OpenView → OpenView
        cut_view v = record { log = take n v.log; touched = v.touched; drawn = v.drawn; written = v.written }

    pub back_keeps : (r : Result Unit ChainFault) → OnOk r (GoesBack s t client (mark_or old.log.items n (length (s.transaction client).undo)))
        → OnOk r (view_of x ≡ record { log = take n old.log.items; touched = old.touched.items; drawn = old.drawn; written = old.written })
        → OnErr r (Rests s t) → OnErr r (view_of x ≡ view_of old) → HasCause s t (of_slots r) → IsStored schema t (log_in now) (touched_in now)
    back_keeps (Ok v) went cut rests same cause =
        back_stored schema s t was (slice_set was client x) client n places free clients failed sound left_places left_free left_clients left_failed still_sound stored fine (cause.stays (λ e. cc e)) begun
        (subst (GoesBack s t client) mark_same went) (cut_now cut) rest_now
    back_keeps (Err fault) went cut rests same cause =
        refused_stored schema s t was (slice_set was client x) (same_all was client old x many lt old_is same) stored fault (λ e. rests) cause (begun_rests s t rests)

    pub back_says : GoesBack s t client (mark_or old.log.items n (length (s.transaction client).undo)) → view_of x ≡ record { log = take n old.log.items; touched = old.touched.items; drawn = old.drawn; written = old.written }
        → t.failed ≡ s.failed → (reserved : Reserved) (sequences : List ℤ) → rows.GoesBack (state_of schema reserved sequences s was) (state_of schema reserved sequences t now) client n
    back_says went cut same reserved sequences =
        back_state schema s t was (slice_set was client x) client n places free clients failed sound left_places left_free left_clients left_failed still_sound stored fine same begun
        (subst (GoesBack s t client) mark_same went) (cut_now cut) rest_now reserved sequences

  -- ---- beginning

  pub begin_keeps : s.failed ≡ false → (s.transaction client).begun ≡ false → (r : Result Unit ChainFault) → OnOk r (Begins s t client) → OnOk r (view_of x ≡ no_open) → OnErr r (Rests s t) → OnErr r (view_of x ≡ view_of old) → HasCause s t (of_slots r)
      → IsStored schema t (log_in now) (touched_in now)
  begin_keeps fine idle (Ok v) begins none rests same cause =
      begun_stored schema s t was (slice_set was client x) client places free clients failed sound left_places left_free left_clients left_failed still_sound stored fine (cause.stays (λ e. cc e)) idle begins (own_now ∙ none) rest_now
  begin_keeps fine idle (Err fault) begins none rests same cause =
      refused_stored schema s t was (slice_set was client x) (same_all was client old x many lt old_is same) stored fault (λ e. rests) cause (begun_rests s t rests)

  pub begin_says : s.failed ≡ false → (s.transaction client).begun ≡ false → Begins s t client → view_of x ≡ no_open → t.failed ≡ s.failed → (reserved : Reserved) (sequences : List ℤ) → reserved client ≡ (λ key. false)
      → rows.Begins (state_of schema reserved sequences s was) (state_of schema reserved sequences t now) client
  begin_says fine idle begins none same =
      begun_state schema s t was (slice_set was client x) client places free clients failed sound left_places left_free left_clients left_failed still_sound stored fine same idle begins (own_now ∙ none) rest_now

  -- ---- giving up

  module _ (ended : Ends s t client) (none : view_of x ≡ no_open) where
    pub abandon_keeps : IsStored schema t (log_in now) (touched_in now)
    abandon_keeps = by_failed s.failed refl
      where
        by_failed : (b : Bool) → s.failed ≡ b → IsStored schema t (log_in now) (touched_in now)
        by_failed true e = abandoned_failed schema s t was (slice_set was client x) client stored ended (own_now ∙ none) rest_now e
        by_failed false e = abandoned_stored schema s t was (slice_set was client x) client places free clients failed sound left_places left_free left_clients left_failed still_sound stored e ended (own_now ∙ none) rest_now

    pub abandon_says : (before after : Reserved) (sequences : List ℤ) → after client ≡ (λ key. false) → ((c : ℕ) → c ≢ client → after c ≡ before c)
        → rows.Abandons (state_of schema before sequences s was) (state_of schema after sequences t now) client
    abandon_says = abandoned_state schema s t was (slice_set was client x) client stored ended (own_now ∙ none) rest_now
        (λ readable. abandoned_rows schema s t was (slice_set was client x) client places free clients failed sound left_places left_free left_clients left_failed still_sound stored readable.1 ended (own_now ∙ none) rest_now readable)

-- A table of a database, and the disk after its rows were read.
use Rattle.std.proofs.Common.{◌≡◌, ◌⊎◌, ◌≤◌, ℕ, Bool, true, false, List, [], None, refl, sym, ap, ◌∙◌, subst, arith, inl, inr}
use Rattle.std.proofs.Math.Logic.{∥∥₁_elim, ∥∥₁_map, ∥∥₁_prop}
use Rattle.std.specs.Prelude.{IsTrue}
use Rattle.storage.specs.Slots.{SlotState}
use Rattle.abl_values.specs.Schema.{SchemaData, primary_of}
use Rattle.database_meaning.specs.declared.contents.Contents.{Contents}
use Rattle.db_core.specs.Crashes.{Holds}
use Rattle.host_io.specs.Out.{OutState}
use Rattle.row_store.specs.Changes.{RowsById}
use Rattle.row_store.specs.Rows.{Durable, IsObservable, RowState, durable_of}
use Rattle.row_store.specs.Times.{Times}
use Rattle.slot_rows.specs.Decoded.{decoded}
use Rattle.slot_rows.specs.Durable.{durable_in, left_in, times_in}
use Rattle.log_meaning.specs.steps.Steps.{Image}
use Rattle.log_meaning.specs.Images.{Recovers}
use Rattle.slot_txn.specs.logged.Stops.{HasSlots, StayRecoverable}
use Rattle.disk_database.specs.table.Calls.{HasRead, HasWritten}
use Rattle.disk_database.specs.table.Order.{AreAll, AreFirst}
use Rattle.host_io.specs.declared.out.Stream.TheVariants.{Output as Standard}
use Rattle.disk_database.specs.table.Calls as table
use Rattle.disk_database.specs.declared.table.writing.TableError.{TableError}
use Rattle.disk_database.specs.declared.table.writing.TableError.TheVariants as error
use Rattle.disk_database.proofs.TableLemmas.Appended.{writes_nothing}
use Rattle.disk_database.specs.Answers.{IsDumped, IsNotDumped, is_output, of_table}
use Rattle.disk_database.specs.declared.refusals.OpenRefusal.TheVariants.{NoMemory}
use Rattle.disk_database.specs.declared.refusals.DumpRefusal.{DumpRefusal}
use Rattle.disk_database.specs.declared.refusals.DumpRefusal.TheVariants.{Database}
use Rattle.disk_database.specs.Images.{AllAreOf, AreImagesOf, ComesFrom, HoldsAsBefore, IsImageOf, RecoversAsBefore, RecoversToChains}
use Rattle.disk_database.specs.Parts.{HoldParts}
use Rattle.disk_database.specs.Inside.{AreOpened, IsStoreOver}
use Rattle.disk_database.proofs.Starts.{durable_is}
use Rattle.disk_database.proofs.Survivals.{all_chains, image_of, one_array, slots_of}

-- slots that an image recovered to are slots with its rows and values
pub holds_as_recovers : (schema : SchemaData) (was : ℕ) (before after : ℕ → Image → Type 0) → RecoversAsBefore was before after → HoldsAsBefore schema was before after
holds_as_recovers schema was before after recovers m image slots from there is =
    let old = recovers m image slots from there is in
    ∣ record { old = old.0; there = old.1; other = slots; recovers = old.2; same = refl } ∣₁

-- what recovers as before has the contents that it had
pub kept_by_recovery : (schema : SchemaData) (contents : Contents) (observable : Bool) (was : ℕ) (before after : ℕ → Image → Type 0) → AreImagesOf observable was before schema contents → RecoversAsBefore was before after → StayRecoverable after was → AllAreOf schema contents (after was)
    → (m : ℕ) (image : Image) → was ≤ m → after m image → ∥ IsImageOf schema contents image ∥₁
kept_by_recovery schema contents observable was before after images recovers stays all m image from there =
    ∣ record { some = stays (λ image there. (all image there).some) m image from there; each = λ slots is. let old = recovers m image slots from there is in (images.all old.0 old.1).each slots old.2 } ∣₁

-- so has what holds the rows and values as before, the parts, and chains
pub kept_by_reads : (schema : SchemaData) (contents : Contents) (observable : Bool) (was : ℕ) (before after : ℕ → Image → Type 0) → AreImagesOf observable was before schema contents → HoldsAsBefore schema was before after → StayRecoverable after was
    → ((m : ℕ) (image : Image) (slots : ℕ → List ℕ) → was ≤ m → after m image → Recovers image slots → HoldParts schema slots) → RecoversToChains was after → AllAreOf schema contents (after was) → (m : ℕ) (image : Image) → was ≤ m → after m image → ∥ IsImageOf schema contents image ∥₁
kept_by_reads schema contents observable was before after images holds stays parts chains all m image from there =
    ∥∥₁_elim (stays (λ image there. (all image there).some) m image from there) ∥∥₁_prop (λ (h : HasSlots image). ∥∥₁_map (holds m image h.slots from there h.recovers) (λ (comes : ComesFrom schema (before was) h.slots). image_of schema contents image h
    (slots_of schema contents h.slots (subst (λ (d : Durable). Holds d contents) (sym comes.same) ((images.all comes.old comes.there).each comes.other comes.recovers).holds) (parts m image h.slots from there h.recovers)
    (all_chains schema contents was after chains all m image h.slots from there h.recovers))))

-- reads keep the schema, and whether the store is observable
pub read_schema : (old new : RowState) (la lb : ℕ → Durable → Type 0) (ta tb : Times) (fa fb : ℕ) (failed : Bool) → HasRead old new la lb ta tb fa fb failed → new.schema ≡ old.schema
read_schema old new la lb ta tb fa fb true read = (read.fails refl).schema
read_schema old new la lb ta tb fa fb false read = ap (λ (r : RowState). r.schema) (read.same refl)

pub read_observable : (old new : RowState) (la lb : ℕ → Durable → Type 0) (ta tb : Times) (fa fb : ℕ) (failed : Bool) → HasRead old new la lb ta tb fa fb failed → new.observable ≡ old.observable
read_observable old new la lb ta tb fa fb true read = (read.fails refl).observable
read_observable old new la lb ta tb fa fb false read = ap (λ (r : RowState). r.observable) (read.same refl)

-- no row was written
pub nothing_dumped : (schema : SchemaData) (observable : Bool) (seen : Image) (table : ℕ) (out : OutState) → IsDumped schema observable seen table false true out out
nothing_dumped schema observable seen table out = record { list = []; lines = writes_nothing Standard out; first = λ known slots recovers. tt; all = λ no. absurd (cc no) }

-- the answer of a table that was written in part
abbrev pub IsAnswer : TableError → DumpRefusal → Type 0
IsAnswer e answer = (answer ≡ of_table e) ⊎ ((is_output (of_table e) ≡ false) × (answer ≡ Database NoMemory))

output_of : (e : TableError) → is_output (of_table e) ≡ table.is_output e
output_of error.Disk = refl
output_of error.NoMemory = refl
output_of error.Output = refl

pub output_same : (e : TableError) (answer : DumpRefusal) → IsAnswer e answer → is_output answer ≡ table.is_output e
output_same e answer (inl is) = ap is_output is ∙ output_of e
output_same e answer (inr other) = ap is_output other.1 ∙ sym (sym (output_of e) ∙ other.0)

table_answer : (schema : SchemaData) (observable : Bool) (seen : Image) (e : TableError) → IsNotDumped schema observable seen (of_table e)
table_answer schema observable seen error.Disk = tt
table_answer schema observable seen error.NoMemory = tt
table_answer schema observable seen error.Output = tt

pub not_dumped : (schema : SchemaData) (observable : Bool) (seen : Image) (e : TableError) (answer : DumpRefusal) → IsAnswer e answer → IsNotDumped schema observable seen answer
not_dumped schema observable seen e answer (inl is) = subst (IsNotDumped schema observable seen) (sym is) (table_answer schema observable seen e)
not_dumped schema observable seen e answer (inr other) = subst (IsNotDumped schema observable seen) (sym other.1) tt

module _ (rows : RowState) (schema own : SchemaData) (s : SlotState) (over : IsStoreOver rows schema s) (same_own : own ≡ schema) (stop : ℕ → (ℕ → List ℕ) → Type 0) (observable : Bool) (seen : Image) (was : ℕ) (left : ℕ → Image → Type 0)
    (opened : AreOpened s stop observable seen was left) (there : IsTrue observable → left was seen) where
  seen_slots : IsTrue observable → IsTrue s.observable
  seen_slots known = subst (λ (b : Bool). IsTrue b) (sym opened.same_observable) known

  -- the images after reads of the rows: what a stop leaves it left before, or it is what was committed
  pub reads_hold : (times : Times) (now : RowState) (own' : SchemaData) (stop' : ℕ → (ℕ → List ℕ) → Type 0) (left' : ℕ → Image → Type 0) (fa fb : ℕ) (failed : Bool) → own' ≡ own → HasRead rows now (left_in own stop) (left_in own' stop') (times_in own s) times fa fb failed
      → ((m : ℕ) (image : Image) (slots : ℕ → List ℕ) → times.since ≤ m → left' m image → Recovers image slots → stop' m slots) → ((m : ℕ) (slots : ℕ → List ℕ) → stop' m slots → IsTrue rows.observable) → IsTrue rows.observable ≡ IsTrue s.observable
      → HoldsAsBefore schema was left left'
  reads_hold times now own' stop' left' fa fb failed same' read law known same m image slots from is recovers = ∥∥₁_map (read.leaves seen_rows m (durable_in own' slots) (slots, st, refl)) comes
    where
      st : stop' m slots
      st = let since = read.since in let start = opened.since in law m image slots (omega (arith, from, since, start)) is recovers

      seen_rows : IsTrue rows.observable
      seen_rows = known m slots st

      at_slots : IsTrue s.observable
      at_slots = subst (λ (X : Type 0). X) same seen_rows

      disk_seen : IsTrue observable
      disk_seen = subst (λ (b : Bool). IsTrue b) opened.same_observable at_slots

      own_is : (x : ℕ → List ℕ) → durable_in schema x ≡ durable_in own' x
      own_is x = ap (λ (q : SchemaData). durable_in q x) (sym same_own ∙ sym same')

      of_committed : durable_in schema slots ≡ durable_in schema s.committed → ComesFrom schema (left was) slots
      of_committed e = record { old = seen; there = there disk_seen; other = s.committed; recovers = opened.recovered disk_seen; same = e }

      comes : left_in own stop m (durable_in own' slots) ⊎ ((durable_in own' slots ≡ durable_of rows) ⊎ (durable_in own' slots ≡ (times_in own s).doubt)) → ComesFrom schema (left was) slots
      comes (inl old) =
          let image_of = opened.come m old.0 old.1 in
          record { old = image_of.0; there = image_of.1; other = old.0; recovers = image_of.2; same = own_is slots ∙ old.2 ∙ ap (λ (q : SchemaData). durable_in q old.0) same_own }
      comes (inr (inl e)) = of_committed (own_is slots ∙ e ∙ durable_is rows schema s over at_slots)
      comes (inr (inr e)) = of_committed (own_is slots ∙ e ∙ ap (λ (q : SchemaData). durable_in q s.doubt) same_own ∙ ap (durable_in schema) (opened.certain disk_seen))

  -- the rows of the store are those of the slots that the disk recovers to
  rows_are : IsTrue observable → (slots : ℕ → List ℕ) → Recovers seen slots → rows.rows ≡ decoded schema slots
  rows_are known slots recovers =
      over.store.rows (subst (λ (b : Bool). IsTrue b) (sym over.same_observable) (seen_slots known)) ∙ ap (decoded schema) (over.reads (seen_slots known) ∙ one_array seen s.committed slots (opened.recovered known) recovers)

  observable_rows : IsTrue observable → IsObservable rows
  observable_rows known = (subst (λ (b : Bool). IsTrue b) (sym (over.store.observable ∙ over.same_observable)) (seen_slots known), over.store.fine)

  -- so is what was written of them
  pub dumped : (table : ℕ) (whole output : Bool) (old new : OutState) → HasWritten whole output rows table (primary_of schema table) None old new → IsDumped schema observable seen table whole output old new
  dumped table whole output old new written = record {
    list = written.list;
    lines = written.lines;
    first = λ known slots recovers. subst (λ (r : RowsById). AreFirst schema r table (primary_of schema table) None written.list) (rows_are known slots recovers)
        (subst (λ (q : SchemaData). AreFirst q rows.rows table (primary_of schema table) None written.list) over.store.schema_is (written.first (observable_rows known)));
    all = λ yes known slots recovers. subst (λ (r : RowsById). AreAll schema r table (primary_of schema table) None written.list) (rows_are known slots recovers)
        (subst (λ (q : SchemaData). AreAll q rows.rows table (primary_of schema table) None written.list) over.store.schema_is (written.all yes (observable_rows known)));
  }

-- Steps by the content of a buffer.
use Rattle.std.proofs.Common.{◌≡◌, ℕ, Bool, List, Option, slice_index_or, sym, ap, ◌∙◌}
use Rattle.abl_base.specs.declared.row.RowId.{RowId}
use Rattle.abl_base.specs.declared.value.Value.{Value}
use Rattle.abl_values.specs.declared.schema.IndexDef.{IndexDef}
use Rattle.abl_values.specs.declared.schema.TableDef.{TableDef}
use Rattle.abl_values.specs.Schema.{SchemaData, indexes_of, no_table}
use Rattle.block_meaning.specs.Program.{Program, table_at}
use Rattle.block_meaning.specs.State.{State, Buffer, Content, Held, Record, Share}
use Rattle.block_meaning.specs.Frames.{content_of, table_of}
use Rattle.block_meaning.specs.Changes.{all_begun}
use Rattle.block_meaning.specs.Buffers.{missing_field}
use Rattle.flat_machine.specs.Config.{WasPut, WasUpgraded}
use Rattle.flat_machine.specs.Steps.{ask, lock_step, put_unless, settle_step, upgrade_step}
use Rattle.client_memory.specs.declared.buffer.Buffer.{Buffer as BufferRs}
use Rattle.client_memory.specs.declared.buffer.Content.{Content as ContentRs}
use Rattle.client_memory.specs.Buffers.{denoted_buffer, denoted_content}
use Rattle.buffer_steps.specs.changes.Buffers.{HasTables}
use Rattle.buffer_steps.specs.changes.Steps.{LockGoes, PutGoes, SettleGoes, UpgradeGoes}
use Rattle.buffer_steps.specs.declared.changes.locks.ChangeLock.{ChangeLock}
use Rattle.buffer_steps.specs.declared.changes.locks.ChangeLock.TheVariants as change_lock
use Rattle.buffer_steps.specs.declared.changes.stores.StoreStep.{StoreStep}
use Rattle.buffer_steps.specs.declared.changes.stores.StoreStep.TheVariants as store

-- what depends on the content and the table of a buffer
pub at_buffer : {A : Type 0} (f : Content → ℕ → A) (y : Buffer) (x : BufferRs) (c : ContentRs) → y ≡ denoted_buffer x → x.content ≡ c → f y.content y.table ≡ f (denoted_content c) x.table
at_buffer f y x c is has = ap (λ (z : Buffer). f z.content z.table) is ∙ ap (λ (d : ContentRs). f (denoted_content d) x.table) has

-- the content, and the table
pub content_is : (y : Buffer) (x : BufferRs) (c : ContentRs) → y ≡ denoted_buffer x → x.content ≡ c → y.content ≡ denoted_content c
content_is y x c is has = at_buffer (λ d t. d) y x c is has

pub table_is : (y : Buffer) (x : BufferRs) → y ≡ denoted_buffer x → y.table ≡ x.table
table_is y x is = ap (λ (z : Buffer). z.table) is

-- the lock of a row
pub lock_goes : (r : ChangeLock) (b : ℕ) (s : State) (t : ℕ) (row : RowId) (values : List Value) (held : Held) (made : Option ℕ) → content_of b s ≡ Record row values held made → table_of b s ≡ t → UpgradeGoes r t row held → LockGoes r b s
lock_goes change_lock.Enough b s t row values held made has of h = λ ks.
    ap (λ (c : Content). lock_step c (table_of b s) b ks s) has ∙ ap (λ (k : ℕ). upgrade_step held k b row values made ks s) of ∙ h b values made ks s
lock_goes change_lock.ReadNoLock b s t row values held made has of h = λ ks.
    ap (λ (c : Content). lock_step c (table_of b s) b ks s) has ∙ ap (λ (k : ℕ). upgrade_step held k b row values made ks s) of ∙ h b values made ks s
lock_goes (change_lock.Asks op r) b s t row values held made has of h = (
  values,
  made,
  has ∙ ap (λ (x : Held). Record row values x made) h.1 ∙ ap (λ (x : RowId). Record x values Share made) (sym h.0),
  λ ks. ap (λ (c : Content). lock_step c (table_of b s) b ks s) has ∙ ap (λ (k : ℕ). upgrade_step held k b row values made ks s) of ∙ h.2 b values made ks s ∙ ap (λ (x : RowId). ask op (WasUpgraded b x values made) ks s) (sym h.0),
)

-- a row is stored
pub settle_goes : (step : StoreStep) (p : Program) (b : ℕ) (s : State) (t : ℕ) (row : RowId) (values : List Value) (held : Held) (made : Option ℕ) → content_of b s ≡ Record row values held made → table_of b s ≡ t → PutGoes step p t row values → SettleGoes step p b s
settle_goes store.Nothing p b s t row values held made has of h = absurd h
settle_goes store.Inserts p b s t row values held made has of h = absurd h
settle_goes (store.Fails c) p b s t row values held made has of h = λ ks.
    ap (λ (d : Content). settle_step p d (table_of b s) b ks s) has ∙ ap (λ (k : ℕ). put_unless (missing_field 0 (table_at p k).fields values) b k row values ks s) of ∙ h b ks s
settle_goes (store.Asks op) p b s t row values held made has of h = λ ks.
    ap (λ (d : Content). settle_step p d (table_of b s) b ks s) has ∙ ap (λ (k : ℕ). put_unless (missing_field 0 (table_at p k).fields values) b k row values ks s) of ∙ h b ks s ∙ ap (λ (k : ℕ). ask op (WasPut b k) ks s) (sym of)

-- whether a pending record is complete
pub begun_is : (p : Program) (schema : SchemaData) (t : ℕ) (is : List IndexDef) (since since' : List ℕ) (r b : Bool) → HasTables p schema → is ≡ indexes_of schema t → since' ≡ since → r ≡ all_begun is since' → r ≡ b → all_begun (table_at p t).indexes since ≡ b
begun_is p schema t is since since' r b tables has same computed answer =
    ap (λ (ts : List TableDef). all_begun (slice_index_or ts t no_table).indexes since) tables ∙ ap (λ (x : List IndexDef). all_begun x since) (sym has) ∙ ap (all_begun is) (sym same) ∙ sym computed ∙ answer

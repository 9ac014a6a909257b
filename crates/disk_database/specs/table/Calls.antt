-- What writing a table leaves of the rows.
use Rattle.std.specs.Prelude.{◌≡◌, ◌⊎◌, ℕ, ◌≤◌, Bool, true, false, List, [], IsTrue, Option, Some, None, Result, Ok, Err}
use Rattle.database_protocol.specs.declared.row_order.Cursor.{Cursor}
use Rattle.host_io.specs.Out.{OutState, Writes}
use Rattle.host_io.specs.declared.out.Stream.TheVariants.{Output as Standard}
use Rattle.storage.specs.faults.Faults.{Rose}
use Rattle.row_store.specs.Questions.{FindsNoneIn}
use Rattle.row_store.specs.Rows.{Durable, RowState, durable_of, Fails, IsObservable}
use Rattle.row_store.specs.Times.{Times}
use Rattle.database_meaning.specs.Search.{IsNextIn}
use Rattle.row_store.specs.declared.store.FoundRow.{FoundRow}
use Rattle.disk_database.specs.table.Order.{AreAll, AreFirst, export_lines}
use Rattle.disk_database.specs.declared.table.writing.TableError.{TableError}
use Rattle.disk_database.specs.declared.table.writing.TableError.TheVariants.{Disk, Output}

-- whether the output did not take a whole line
abbrev pub is_output : TableError → Bool
is_output Output = true
is_output error = false

-- whether the disk failed
abbrev pub is_disk_error : TableError → Bool
is_disk_error Disk = true
is_disk_error error = false

abbrev pub is_disk : {T : Type 0} → Result T TableError → Bool
is_disk (Ok value) = false
is_disk (Err error) = is_disk_error error

-- the row is the next one of the table after this place, or there is none
abbrev pub HasNext : RowState → ℕ → Option ℕ → Option Cursor → Option FoundRow → Type 0
HasNext rows table index after None = IsObservable rows → FindsNoneIn rows.schema rows.rows table index [] after true
HasNext rows table index after (Some f) = IsObservable rows → IsNextIn rows.schema rows.rows table index [] after true f.row f.key f.values

-- rows were read: what a stop leaves it left before, or it is what was committed then or in doubt. Unless the disk failed the state is as before
pub record HasRead (old new : RowState) (before after : ℕ → Durable → Type 0) (was now : Times) (old_faults new_faults : ℕ) (failed : Bool) : Type 0 where
  pub same : failed ≡ false → new ≡ old
  pub fails : failed ≡ true → Fails old new
  pub leaves : IsTrue old.observable → (m : ℕ) (durable : Durable) → after m durable → ∥ before m durable ⊎ ((durable ≡ durable_of old) ⊎ (durable ≡ was.doubt)) ∥₁
  pub doubt : IsTrue old.observable → now.doubt ≡ was.doubt
  pub since : now.since ≡ was.since
  pub later : was.moment ≤ now.moment
  pub faults : old_faults ≤ new_faults
  pub rose : failed ≡ true → Rose old_faults new_faults ⊎ IsTrue old.failed

-- the rows after this place were written: all of them, or the first ones, the last of them in part where the output failed
pub record HasWritten (whole output : Bool) (rows : RowState) (table : ℕ) (index : Option ℕ) (after : Option Cursor) (old new : OutState) : Type 0 where
  pub list : List FoundRow
  pub lines : Writes output Standard (export_lines list) old new
  pub first : IsObservable rows → AreFirst rows.schema rows.rows table index after list
  pub all : whole ≡ true → IsObservable rows → AreAll rows.schema rows.rows table index after list

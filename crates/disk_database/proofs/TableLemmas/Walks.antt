-- Rows found and written one after another.
use Rattle.std.proofs.Common.{◌≡◌, ℕ, true, false, List, [], ◌∷◌, ◌++◌, refl, sym, ap, ◌∙◌, subst, append_assoc, append-nil, Option, Some, None}
use Rattle.value_masks.specs.Export.{export}
use Rattle.host_io.specs.Out.{OutState, Writes}
use Rattle.host_io.specs.declared.out.Stream.TheVariants.{Output as Standard}
use Rattle.database_protocol.specs.declared.row_order.Cursor.{Cursor}
use Rattle.row_store.specs.Rows.{IsObservable, RowState}
use Rattle.row_store.specs.declared.store.FoundRow.{FoundRow}
use Rattle.disk_database.specs.table.Order.{AreAll, AreFirst, export_lines, place_of}
use Rattle.std.specs.Prelude.{not, if◌then◌else◌}
use Rattle.disk_database.specs.table.Calls.{HasNext, HasWritten, is_output}
use Rattle.disk_database.specs.declared.table.writing.TableError.{TableError}
use Rattle.disk_database.specs.declared.table.writing.TableError.TheVariants.{Disk, NoMemory, Output}
use Rattle.disk_database.proofs.TableLemmas.Appended.{writes_nothing, writes_then}

-- the rows up to this place are written, and what is true of the rows after it is true of all
pub record Walks (s : RowState) (table : ℕ) (index : Option ℕ) (cursor : Option Cursor) (old now : OutState) : Type 0 where
  pub list : List FoundRow
  pub lines : Writes true Standard (export_lines list) old now
  pub first : IsObservable s → (more : List FoundRow) → AreFirst s.schema s.rows table index cursor more → AreFirst s.schema s.rows table index None (list ++ more)
  pub all : IsObservable s → (more : List FoundRow) → AreAll s.schema s.rows table index cursor more → AreAll s.schema s.rows table index None (list ++ more)

pub walks_none : (s : RowState) (table : ℕ) (index : Option ℕ) (out : OutState) → Walks s table index None out out
walks_none s table index out = record { list = []; lines = writes_nothing Standard out; first = λ seen more is. is; all = λ seen more is. is }

lines_more : (list : List FoundRow) (f : FoundRow) → export_lines (list ++ f ∷ []) ≡ export_lines list ++ export f.values
lines_more [] f = append-nil (export f.values)
lines_more (g ∷ gs) f = ap (λ text. export g.values ++ text) (lines_more gs f) ∙ sym (append_assoc (export g.values) (export_lines gs) (export f.values))

together : (list : List FoundRow) (f : FoundRow) (more : List FoundRow) → list ++ f ∷ more ≡ (list ++ f ∷ []) ++ more
together [] f more = refl
together (g ∷ gs) f more = ap (λ rest. g ∷ rest) (together gs f more)

module _ (s now : RowState) (same : now ≡ s) (table : ℕ) (index : Option ℕ) (cursor : Option Cursor) (old mid : OutState) (walks : Walks s table index cursor old mid) where
  next_in : (f : FoundRow) → HasNext now table index cursor (Some f) → HasNext s table index cursor (Some f)
  next_in f next = subst (λ (r : RowState). HasNext r table index cursor (Some f)) same next

  -- one row more
  pub walks_on : (f : FoundRow) (new : OutState) → HasNext now table index cursor (Some f) → Writes true Standard (export f.values) mid new → Walks s table index (Some (place_of f)) old new
  walks_on f new next written = record {
    list = walks.list ++ f ∷ [];
    lines = subst (λ text. Writes true Standard text old new) (sym (lines_more walks.list f)) (writes_then true Standard (export_lines walks.list) (export f.values) old mid new walks.lines written);
    first = λ seen more is. subst (AreFirst s.schema s.rows table index None) (together walks.list f more) (walks.first seen (f ∷ more) (next_in f next seen, is));
    all = λ seen more is. subst (AreAll s.schema s.rows table index None) (together walks.list f more) (walks.all seen (f ∷ more) (next_in f next seen, is));
  }

  -- there is no further row
  pub walked_all : HasNext now table index cursor None → HasWritten true true s table index None old mid
  walked_all none = record {
    list = walks.list;
    lines = walks.lines;
    first = λ seen. subst (AreFirst s.schema s.rows table index None) (append-nil walks.list) (walks.first seen [] tt);
    all = λ yes seen. subst (AreAll s.schema s.rows table index None) (append-nil walks.list) (walks.all seen [] (subst (λ (r : RowState). HasNext r table index cursor None) same none seen));
  }

  -- it ends before
  pub walked_part : HasWritten false true s table index None old mid
  walked_part = record {
    list = walks.list;
    lines = walks.lines;
    first = λ seen. subst (AreFirst s.schema s.rows table index None) (append-nil walks.list) (walks.first seen [] tt);
    all = λ no. absurd (cc no);
  }

  -- the output did not take the line of the next row
  pub walked_torn : (f : FoundRow) (new : OutState) → HasNext now table index cursor (Some f) → Writes false Standard (export f.values) mid new → HasWritten false false s table index None old new
  walked_torn f new next written = record {
    list = walks.list ++ f ∷ [];
    lines = subst (λ text. Writes false Standard text old new) (sym (lines_more walks.list f)) (writes_then false Standard (export_lines walks.list) (export f.values) old mid new walks.lines written);
    first = λ seen. walks.first seen (f ∷ []) (next_in f next seen, tt);
    all = λ no. absurd (cc no);
  }

  -- the line of the next row is not made, or the output did not take it
  walked_still : (new : OutState) → Writes true Standard [] mid new → HasWritten false true s table index None old new
  walked_still new written = record {
    list = walks.list;
    lines = subst (λ text. Writes true Standard text old new) (append-nil (export_lines walks.list)) (writes_then true Standard (export_lines walks.list) [] old mid new walks.lines written);
    first = λ seen. subst (AreFirst s.schema s.rows table index None) (append-nil walks.list) (walks.first seen [] tt);
    all = λ no. absurd (cc no);
  }

  pub walked_short : (e : TableError) (f : FoundRow) (new : OutState) → HasNext now table index cursor (Some f) → Writes (not (is_output e)) Standard (if is_output e then export f.values else []) mid new
      → HasWritten false (not (is_output e)) s table index None old new
  walked_short Output f new next written = walked_torn f new next written
  walked_short Disk f new next written = walked_still new written
  walked_short NoMemory f new next written = walked_still new written

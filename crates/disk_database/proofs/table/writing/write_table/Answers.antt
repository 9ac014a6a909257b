-- The rows one after another, and each way to end.
use Rattle.std.proofs.Common.{◌≡◌, sym, subst, false, Bool, None, Option, ℕ, refl}
use Rattle.std.specs.Prelude.{not}
use Rattle.row_store.specs.Rows.{RowState}
use Rattle.database_protocol.specs.declared.row_order.Cursor.{Cursor}
use Rattle.row_store.specs.declared.store.FoundRow.{FoundRow}
use Rattle.disk_database.specs.table.Calls.{HasNext, HasRead, HasWritten}
use Rattle.disk_database.proofs.TableLemmas.Successive.{reads_both, reads_none}
use Rattle.disk_database.proofs.TableLemmas.Walks.{walked_all, walked_part, walked_short, walks_none, walks_on}
use Rattle.disk_database.proofs.table.writing.write_table.Goals as goal

-- the place and the row that a search gave are these
found_at : (rows : RowState) (table : ℕ) (index : Option ℕ) (x y : Option Cursor) (f g : Option FoundRow) → x ≡ y → f ≡ g → HasNext rows table index x f → HasNext rows table index y g
found_at rows table index x y f g at is next = subst (λ (o : Option FoundRow). HasNext rows table index y o) is (subst (λ (o : Option Cursor). HasNext rows table index o f) at next)

pub loop-init : goal.loop-init
loop-init g c = record { read = reads_none _ _ _ _; walked = walks_none _ _ _ _ }

pub returns-in-Ok-None-clause-written : goal.returns-in-Ok-None-clause-written
returns-in-Ok-None-clause-written g c = walked_all _ _ (c.loop.invariant.read.same refl) _ _ _ _ _ c.loop.invariant.walked (found_at (g.R.RowStore.state c.loop.rows) c.args.table c.args.index _ _ _ _ c.as_ref.ensures.value c.in-Ok-None.field-0-is c.in-Ok-None.ensures.found)

pub returns-in-Ok-None-clause-read : goal.returns-in-Ok-None-clause-read
returns-in-Ok-None-clause-read g c = reads_both _ _ _ _ _ _ _ _ _ _ _ _ _ c.loop.invariant.read c.in-Ok-None.ensures.read

pub returns-in-Err-clause-part : goal.returns-in-Err-clause-part
returns-in-Err-clause-part g c =
    subst (λ (b : Bool). HasWritten false (not b) (g.R.RowStore.state c.args.rows.now) c.args.table c.args.index None (g.O.Out.state c.args.out.now) (g.O.Out.state c.loop.out)) (sym c.in-Err.ensures.no_output)
    (walked_part _ _ (c.loop.invariant.read.same refl) _ _ _ _ _ c.loop.invariant.walked)

pub returns-in-Err-clause-read : goal.returns-in-Err-clause-read
returns-in-Err-clause-read g c = reads_both _ _ _ _ _ _ _ _ _ _ _ _ _ c.loop.invariant.read c.in-Err.ensures.read

pub returns-in-Err-write_line-clause-part : goal.returns-in-Err-write_line-clause-part
returns-in-Err-write_line-clause-part g c = walked_short _ _ (c.loop.invariant.read.same refl) _ _ _ _ _ c.loop.invariant.walked c.in-Err-write_line.error c.in-Ok-Some.found _ (found_at (g.R.RowStore.state c.loop.rows) c.args.table c.args.index _ _ _ _ c.as_ref.ensures.value c.in-Ok-Some.field-0-is c.in-Ok-Some.ensures.found) c.in-Err-write_line.ensures.err

pub returns-in-Err-write_line-clause-read : goal.returns-in-Err-write_line-clause-read
returns-in-Err-write_line-clause-read g c =
    subst (λ (b : Bool). HasRead (g.R.RowStore.state c.args.rows.now) (g.R.RowStore.state c.find_next.new.rows) (g.R.RowStore.left c.args.rows.now) (g.R.RowStore.left c.find_next.new.rows) (g.R.RowStore.times c.args.rows.now) (g.R.RowStore.times c.find_next.new.rows) (g.R.RowStore.faults c.args.rows.now) (g.R.RowStore.faults c.find_next.new.rows) b) (sym c.in-Err-write_line.ensures.no_disk)
    (reads_both _ _ _ _ _ _ _ _ _ _ _ _ _ c.loop.invariant.read c.in-Ok-Some.ensures.read)

pub loop-preserved : goal.loop-preserved
loop-preserved g c = record {
  read = reads_both _ _ _ _ _ _ _ _ _ _ _ _ _ c.loop.invariant.read c.in-Ok-Some.ensures.read;
  walked = walks_on _ _ (c.loop.invariant.read.same refl) _ _ _ _ _ c.loop.invariant.walked c.in-Ok-Some.found _ (found_at (g.R.RowStore.state c.loop.rows) c.args.table c.args.index _ _ _ _ c.as_ref.ensures.value c.in-Ok-Some.field-0-is c.in-Ok-Some.ensures.found) c.in_default.ensures.ok;
}

pub returns-clause-part : goal.returns-clause-part
returns-clause-part g c = walked_part _ _ (c.loop.invariant.read.same refl) _ _ _ _ _ c.loop.invariant.walked

use Rattle.std.proofs.Common.{List, Option, IfOk, ℤ, sym, subst}
use Rattle.abl_base.specs.declared.row.RowId.{RowId}
use Rattle.storage.specs.Slots.{IsReadable}
use Rattle.row_store.specs.Questions.{replaced_at}
use Rattle.row_keys.specs.Questions.{IsRead}
use Rattle.slot_rows.specs.State.{Reserved, state_of}
use Rattle.indexed_store.proofs.reads.replaced.Goals as goal

pub returns-in-Some-clause-found : goal.returns-in-Some-clause-found
returns-in-Some-clause-found g c =
    let rows = c.args.rows.now in
    let s = g.S.Slots.state rows.chains.slots in
    subst (λ (o : Option RowId). IfOk c.read.result (λ found. (reserved : Reserved) (sequences : List ℤ) → IsReadable s → IsRead c.args.table found (replaced_at (state_of rows.schema reserved sequences s rows.opens.items) o))) (sym c.in-Some.is)
    c.read.ensures.found

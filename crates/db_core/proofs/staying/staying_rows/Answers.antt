use Rattle.std.proofs.Common.{List, sym, subst}
use Rattle.abl_base.specs.declared.row.RowId.{RowId}
use Rattle.db_core.specs.Moves.{ListsPresent}
use Rattle.db_core.proofs.StayingRows.{are_staying}
use Rattle.db_core.proofs.staying.staying_rows.Goals as goal

pub returns-clause-staying : goal.returns-clause-staying
returns-clause-staying g c = λ f s d represents seen outermost.
    let rows = g.R.RowStore.state c.args.rows.now in
    are_staying f rows c.args.control.now s d c.args.keep.now _ (g.met.R.RowStore.consistent c.args.rows.now) represents outermost seen
    (subst (λ (ys : List RowId). ListsPresent rows.rows c.args.keep.now ys) (sym c.from_vec.ensures)
    (subst (λ (xs : List RowId). ListsPresent rows.rows xs c.in_ok-list.list.items) c.as_slice.ensures (c.in_ok-list.ensures.found seen)))

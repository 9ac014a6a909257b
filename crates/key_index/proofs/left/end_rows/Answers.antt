use Rattle.key_index.proofs.LeftRows.{rows_start, rows_step}
use Rattle.key_index.proofs.left.end_rows.Goals as goal

pub loop-row-init : goal.loop-row-init
loop-row-init c =
    rw (c.replace-rest.ensures.after, c.new.ensures, c.replace-rest.ensures.value) (rows_start c.args.client c.args.seats.now c.args.left.now c.requires)

pub loop-row-preserved : goal.loop-row-preserved
loop-row-preserved c =
    rows_step c.args.client c.args.seats.now c.loop-row.seats c.end_row.new.seats c.loop-row.left c.end_row.new.left c.loop-row.rest c.take.new.self c.in-Some.row c.loop-row.invariant c.in-Some.ensures
    c.end_row.ensures.others c.end_row.ensures.ended c.end_row.ensures.listed c.end_row.ensures.more

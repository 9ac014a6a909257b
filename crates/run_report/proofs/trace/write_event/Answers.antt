-- A line is written in three parts.
use Rattle.std.proofs.lemmas.Result.{err_from_is_err_and}
use Rattle.run_report.proofs.TraceLines.{part_of_caller, part_of_op, whole_line}
use Rattle.run_report.proofs.trace.write_event.Goals as goal

pub returns-in_err-write_caller : goal.returns-in_err-write_caller
returns-in_err-write_caller g c =
    let p = err_from_is_err_and c.from_residual.result c.from_residual.ensures.1 in
    rw p.1 (part_of_caller c.args.schema.now c.args.names.now c.args.number c.args.event.now _ _ c.in_err-write_caller.ensures)

pub returns-in_err-write_op : goal.returns-in_err-write_op
returns-in_err-write_op g c =
    let p = err_from_is_err_and c.from_residual-in_err-write_op.result c.from_residual-in_err-write_op.ensures.1 in
    rw p.1 (part_of_op c.args.schema.now c.args.names.now c.args.number c.args.event.now _ _ _ c.in_ok-write_caller.ensures c.in_err-write_op.ensures)

pub returns : goal.returns
returns g c = whole_line c.args.schema.now c.args.names.now c.args.number c.args.event.now _ _ _ _ _ c.in_ok-write_caller.ensures c.in_ok-write_op.ensures c.write_answer.ensures

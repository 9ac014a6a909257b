use Rattle.std.proofs.Common.{◌≤◌, ◌++◌, ◌∷◌, [], codes, length, arith}
use Rattle.std.proofs.lemmas.List.{take_all}
use Rattle.std.proofs.lemmas.Result.{err_from_is_err_and}
use Rattle.host_io.specs.declared.out.Stream.TheVariants.{Output}
use Rattle.run_report.specs.Trace.{trace_lines}
use Rattle.run_report.proofs.TraceLines.{writes_more, writes_some}
use Rattle.run_report.proofs.Writing.{writes_part}
use Rattle.run_report.proofs.trace.write_trace.Goals as goal

pub returns-in_err-write_heading : goal.returns-in_err-write_heading
returns-in_err-write_heading g c =
    let p = err_from_is_err_and c.from_residual.result c.from_residual.ensures.1 in
    rw p.1 (writes_part Output (codes "== trace ==" ++ 10 ∷ []) (trace_lines c.args.schema.now c.args.names.now 1 c.args.trace.now) _ _ c.in_err-write_heading.ensures)

pub loop-at-init : goal.loop-at-init
loop-at-init g c = c.in_ok-write_heading.ensures

pub returns-in_err-write_event : goal.returns-in_err-write_event
returns-in_err-write_event g c =
    let p = err_from_is_err_and c.from_residual-in_err-write_event.result c.from_residual-in_err-write_event.ensures.1 in
    rw p.1 (writes_some c.args.schema.now c.args.names.now c.args.trace.now c.loop-at.at c.index-trace-at.result c.loop-at-test.true _ _ _ c.loop-at.invariant (rw (← c.index-trace-at.is) c.in_err-write_event.ensures))

pub loop-at-preserved : goal.loop-at-preserved
loop-at-preserved g c =
    writes_more c.args.schema.now c.args.names.now c.args.trace.now c.loop-at.at c.index-trace-at.result c.loop-at-test.true _ _ _ _ c.loop-at.invariant (rw (← c.index-trace-at.is) c.in_ok-write_event.ensures)

pub returns : goal.returns
returns g c =
    let end : length c.args.trace.now ≤ c.loop-at.at = omega (arith, c.loop-at-test.false) in
    rw (take_all c.loop-at.at c.args.trace.now end) at c.loop-at.invariant

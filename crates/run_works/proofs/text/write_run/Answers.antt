use Rattle.std.proofs.lemmas.Result.{err_from_is_err_and}
use Rattle.host_io.specs.declared.out.Stream.TheVariants.{Output}
use Rattle.run_report.proofs.Writing.{writes_part, writes_then}
use Rattle.run_works.proofs.text.write_run.Goals as goal

pub returns-in_err-write_reports-in-Trace : goal.returns-in_err-write_reports-in-Trace
returns-in_err-write_reports-in-Trace g c =
    let p = err_from_is_err_and c.from_residual.result c.from_residual.ensures.1 in
    let written = c.in_err-write_reports-in-Trace.ensures in
    (written.0, written.1, rw (p.1, c.in-Trace.is) (writes_part Output _ _ _ _ written.2))

pub returns-in_ok-write_reports-in-Trace : goal.returns-in_ok-write_reports-in-Trace
returns-in_ok-write_reports-in-Trace g c =
    let written = c.in_ok-write_reports-in-Trace.ensures in
    (written.0, written.1, rw c.in-Trace.is (writes_then _ Output _ _ _ _ _ written.2 c.write_trace.ensures))

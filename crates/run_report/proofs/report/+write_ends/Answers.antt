-- The line of a client, and then those of the others.
use Rattle.std.proofs.lemmas.Result.{err_from_is_err_and}
use Rattle.host_io.specs.declared.out.Stream.TheVariants.{Diagnostics}
use Rattle.run_report.proofs.Writing.{writes_part, writes_then}
use Rattle.run_report.proofs.report.+write_ends.Goals as goal

pub returns-in_err-write_end : goal.returns-in_err-write_end
returns-in_err-write_end g t c =
    let p = err_from_is_err_and c.from_residual.result c.from_residual.ensures.1 in
    rw (p.1, c.in-Some.ensures.cases.0, c.in-Some-split_first.ensures.cases.0, ← c.as_slice.ensures) (writes_part Diagnostics _ _ _ _ c.in_err-write_end.ensures)

pub returns : goal.returns
returns g t c =
    rw (c.in-Some.ensures.cases.0, c.in-Some-split_first.ensures.cases.0, ← c.as_slice.ensures) (writes_then _ Diagnostics _ _ _ _ _ c.in_ok-write_end.ensures c.write_ends.ensures)

use Rattle.std.proofs.lemmas.Result.{err_from_is_err_and}
use Rattle.host_io.specs.declared.out.Stream.TheVariants.{Output}
use Rattle.run_report.proofs.Writing.{writes_part, writes_then}
use Rattle.run_report.proofs.report.write_report.Goals as goal

pub returns-in_err-write_part : goal.returns-in_err-write_part
returns-in_err-write_part g c =
    let p = err_from_is_err_and c.from_residual.result c.from_residual.ensures.1 in
    rw (p.1, c.in-Some.ensures.cases.0, ← c.as_slice-bytes.ensures) (writes_part Output _ _ _ _ c.in_err-write_part.ensures)

pub returns : goal.returns
returns g c =
    rw (c.in-Some.ensures.cases.0, ← c.as_slice-bytes.ensures) (writes_then _ Output _ _ _ _ _ c.in_ok-write_part.ensures c.write_all_named.ensures)

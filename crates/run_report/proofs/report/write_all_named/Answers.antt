use Rattle.std.proofs.Common.{◌++◌, ◌∷◌}
use Rattle.std.proofs.lemmas.Result.{err_from_is_err_and}
use Rattle.client_output.specs.declared.section.Section.{Section}
use Rattle.run_report.specs.Report.{part_of}
use Rattle.run_report.proofs.Writing.{writes_within}
use Rattle.run_report.proofs.report.write_all_named.Goals as goal

pub returns-in_err-write_named : goal.returns-in_err-write_named
returns-in_err-write_named g c =
    let p = err_from_is_err_and c.from_residual.result c.from_residual.ensures.1 in
    rw p.1 (writes_within (λ (s : Section). part_of (c.args.name.now ++ 58 ∷ s.name) s.bytes) c.args.named.now c.loop-section.section-index c.section-item.result _ _ _ _ c.loop-section-test.true c.loop-section.invariant
    (rw (← c.section-item.is, ← c.as_slice.ensures, ← c.as_slice-bytes.ensures) c.in_err-write_named.ensures))

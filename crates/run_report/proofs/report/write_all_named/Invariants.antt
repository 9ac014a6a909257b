use Rattle.std.proofs.Common.{true, take, ◌++◌, ◌∷◌}
use Rattle.std.specs.List.{flat_map}
use Rattle.host_io.specs.declared.out.Stream.TheVariants.{Output}
use Rattle.run_report.specs.Report.{part_of}
use Rattle.host_io.specs.Out.{Writes}
use Rattle.run_report.proofs.report.write_all_named.Given as goal

-- what comes before was written whole
abbrev pub invariant-loop-section : goal.invariant-loop-section
invariant-loop-section g l =
    Writes true Output (flat_map (λ s. part_of (l.name ++ 58 ∷ s.name) s.bytes) (take l.section-index l.named))
    (g.O.Out.state l.fn.out)
    (g.O.Out.state l.out)

use Rattle.std.proofs.Common.{true, take}
use Rattle.host_io.specs.declared.out.Stream.TheVariants.{Output}
use Rattle.run_report.specs.Trace.{trace_part}
use Rattle.host_io.specs.Out.{Writes}
use Rattle.run_report.proofs.trace.write_trace.Given as goal

-- what comes before was written whole
abbrev pub invariant-loop-at : goal.invariant-loop-at
invariant-loop-at g l =
    Writes true Output (trace_part l.schema l.names (take l.at l.trace))
    (g.O.Out.state l.fn.out)
    (g.O.Out.state l.out)

use Rattle.std.proofs.Common.{true, take}
use Rattle.host_io.specs.declared.out.Stream.TheVariants.{Output}
use Rattle.host_io.specs.Out.{Writes}
use Rattle.run_report.specs.Trace.{client_names}
use Rattle.run_report.proofs.trace.write_clients.Given as goal

-- the names so far were written whole
abbrev pub invariant-loop-client : goal.invariant-loop-client
invariant-loop-client g l =
    Writes true Output (client_names l.names (take l.client-index l.clients))
    (g.O.Out.state l.fn.out)
    (g.O.Out.state l.out)

-- By the law of legal traces, since the trace of a run is legal from the contents of the disk.
use Rattle.std.specs.Prelude.{◌+◌, length}
use Rattle.command_laws.proofs.laws.the_clients_of_a_run_are_isolated.Goals as goal

pub returns-clause-run : goal.returns-clause-run
returns-clause-run g c = λ mode schema names units works was now old new report contents ran held. c.legal_traces_are_isolated.ensures (record { schema = schema; clients = length works }) contents report.trace (ran.durable contents held).0

pub returns-clause-bank : goal.returns-clause-bank
returns-clause-bank g c = λ mode schema names units clients works was now old new report contents ran held. c.legal_traces_are_isolated.ensures (record { schema = schema; clients = clients + 2 }) contents report.trace (ran.durable contents held).0

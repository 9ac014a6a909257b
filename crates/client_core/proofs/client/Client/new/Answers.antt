use Rattle.std.proofs.Common.{[]}
use Rattle.client_core.proofs.Begins.{begin_follows}
use Rattle.client_core.proofs.client.Client.new.Goals as goal

pub returns-clause-refines : goal.returns-clause-refines
returns-clause-refines c =
    λ bound p compiled source tables own named forms lines. record { written = []; follows = begin_follows p bound c.in_ok-machine.machine c.args.code c.args.inputs c.args.units c.in_ok-machine.ensures compiled source tables own named forms lines }

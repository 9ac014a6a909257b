-- By induction over the calls.
use Rattle.crash_laws.specs.Disks.{view_of}
use Rattle.crash_laws.proofs.Calls.{calls_kept}
use Rattle.crash_laws.proofs.laws.no_call_loses_what_was_acknowledged.Goals as goal

pub returns : goal.returns
returns g c = λ history is. calls_kept (view_of g.D.Disk) history is

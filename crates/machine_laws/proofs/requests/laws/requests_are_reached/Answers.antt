use Rattle.machine_laws.proofs.RequestsLemmas.Requested.{requested_reached}
use Rattle.machine_laws.proofs.requests.laws.requests_are_reached.Goals as goal

pub returns : goal.returns
returns c = requested_reached

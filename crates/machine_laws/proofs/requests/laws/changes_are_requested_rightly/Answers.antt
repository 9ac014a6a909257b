use Rattle.machine_laws.proofs.RequestsLemmas.Requested.{requested_held, requested_inserted, requested_inside}
use Rattle.machine_laws.proofs.requests.laws.changes_are_requested_rightly.Goals as goal

pub returns : goal.returns
returns c = record { inside = requested_inside; inserted = requested_inserted; held = requested_held }

-- What a client asks, for the layer above.
use Rattle.database_protocol.specs.declared.operation.Op.{Op}
use Rattle.database_protocol.specs.declared.operation.Op.TheVariants.{End}
use Rattle.database_protocol.specs.declared.next_step.NextStep.TheVariants.{Ask}
use Rattle.client_core.specs.ClientView.{ClientView}
use Rattle.client_core.specs.Work.{IsWaiting, IsEnding, ShowsNextStep}
use Rattle.client_core.proofs.Works.{shows_waits, shows_end}

pub asking_waits : (client : ClientView) (op : Op) → ShowsNextStep client (Ask op) → IsWaiting client
asking_waits client op shows = shows_waits client (Ask op) shows tt

pub asking_end_ends : (client : ClientView) → ShowsNextStep client (Ask End) → IsEnding client
asking_end_ends client shows = shows_end client shows

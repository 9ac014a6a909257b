use Rattle.binder.proofs.Scenes.{beginning_is}
use Rattle.binder.proofs.sources.beginning.Goals as goal

pub returns : goal.returns
returns c = λ is.
    beginning_is (record { schema = c.args.schema.now; namings = c.args.said.now; procedures = c.args.procedures.now }) c.known_first.result c.args.position is c.known_first.ensures

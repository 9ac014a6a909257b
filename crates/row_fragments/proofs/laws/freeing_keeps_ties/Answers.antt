use Rattle.row_fragments.specs.Tied.{IsValue}
use Rattle.row_fragments.proofs.Ties.{freed_tied}
use Rattle.row_fragments.proofs.laws.freeing_keeps_ties.Goals as goal

pub returns : goal.returns
returns g c = freed_tied (IsValue (g.S.Slots.state c.args.slots.now))

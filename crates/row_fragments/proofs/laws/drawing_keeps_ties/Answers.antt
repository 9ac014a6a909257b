use Rattle.row_fragments.specs.Tied.{IsValue}
use Rattle.row_fragments.proofs.Ties.{drawn_tied}
use Rattle.row_fragments.proofs.laws.drawing_keeps_ties.Goals as goal

pub returns : goal.returns
returns g c = drawn_tied (IsValue (g.S.Slots.state c.args.slots.now))

use Rattle.row_fragments.specs.Tied.{IsValue}
use Rattle.row_fragments.proofs.Ties.{same_row}
use Rattle.row_fragments.proofs.laws.rows_lie_apart.Goals as goal

pub returns : goal.returns
returns g c = same_row (IsValue (g.S.Slots.state c.args.slots.now))

use Rattle.row_fragments.proofs.Ties.{other_stays}
use Rattle.row_fragments.proofs.laws.other_rows_stay.Goals as goal

pub returns : goal.returns
returns g c = other_stays (g.S.Slots.state c.args.old.now) (g.S.Slots.state c.args.new.now)

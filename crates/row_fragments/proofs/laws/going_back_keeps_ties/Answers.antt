use Rattle.row_fragments.proofs.Ties.{back_tied}
use Rattle.row_fragments.proofs.laws.going_back_keeps_ties.Goals as goal

pub returns : goal.returns
returns g c = back_tied (g.S.Slots.state c.args.old.now) (g.S.Slots.state c.args.new.now)

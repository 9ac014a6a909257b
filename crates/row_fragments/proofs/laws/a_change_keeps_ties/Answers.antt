use Rattle.row_fragments.proofs.Ties.{change_tied}
use Rattle.row_fragments.proofs.laws.a_change_keeps_ties.Goals as goal

pub returns : goal.returns
returns g c = change_tied (g.S.Slots.state c.args.old.now) (g.S.Slots.state c.args.new.now)

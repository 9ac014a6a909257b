use Rattle.row_fragments.proofs.StopRows.{rows_go}
use Rattle.row_fragments.proofs.laws.stops_leave_rows.Goals as goal

pub returns : goal.returns
returns g c =
    rows_go (g.S.Slots.state c.args.old.now) (g.S.Slots.state c.args.new.now) (g.S.Slots.stop c.args.old.now) (g.S.Slots.stop c.args.new.now)

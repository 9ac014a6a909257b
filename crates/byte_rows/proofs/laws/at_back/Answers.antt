use Rattle.byte_rows.proofs.Turns.{back_kept}
use Rattle.byte_rows.proofs.laws.at_back.Goals as goal

pub returns : goal.returns
returns g c = back_kept (g.S.Slots.state c.args.old.now) (g.S.Slots.state c.args.new.now) c.args.places.now

use Rattle.byte_rows.proofs.Turns.{grows_kept}
use Rattle.byte_rows.proofs.laws.at_room.Goals as goal

pub returns : goal.returns
returns g c = grows_kept (g.S.Slots.state c.args.old.now) (g.S.Slots.state c.args.new.now) c.args.places.now

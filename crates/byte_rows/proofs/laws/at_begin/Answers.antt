use Rattle.byte_rows.proofs.Turns.{begins_kept}
use Rattle.byte_rows.proofs.laws.at_begin.Goals as goal

pub returns : goal.returns
returns g c = begins_kept (g.S.Slots.state c.args.old.now) (g.S.Slots.state c.args.new.now) c.args.places.now

use Rattle.byte_rows.proofs.Turns.{rests_kept}
use Rattle.byte_rows.proofs.laws.at_rest.Goals as goal

pub returns : goal.returns
returns g c = rests_kept (g.S.Slots.state c.args.old.now) (g.S.Slots.state c.args.new.now) c.args.places.now

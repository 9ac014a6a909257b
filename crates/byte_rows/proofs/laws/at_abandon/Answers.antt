use Rattle.byte_rows.proofs.Turns.{ends_kept}
use Rattle.byte_rows.proofs.laws.at_abandon.Goals as goal

pub returns : goal.returns
returns g c = λ kept client ended. ends_kept (g.S.Slots.state c.args.old.now) (g.S.Slots.state c.args.new.now) c.args.places.now kept ended.failed client ended

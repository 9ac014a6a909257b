use Rattle.byte_rows.proofs.Turns.{commits_kept}
use Rattle.byte_rows.proofs.laws.at_commit.Goals as goal

pub returns : goal.returns
returns g c = commits_kept (g.S.Slots.state c.args.old.now) (g.S.Slots.state c.args.new.now) c.args.places.now

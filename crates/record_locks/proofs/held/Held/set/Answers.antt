use Rattle.std.proofs.Common.{ap, ◌∙◌}
use Rattle.std.specs.FinMap as map
use Rattle.abl_base.proofs.TreeEntries.{one_put}
use Rattle.record_locks.proofs.held.Held.set.Goals as goal

pub returns-clause-ok : goal.returns-clause-ok
returns-clause-ok c =
    one_put c.self.inside.rows.entries c.insert.new.self.entries c.args.row c.args.exclusive c.in_ok-insert.ensures.updates.0
    ∙ ap (λ m. map.insert m c.args.row c.args.exclusive) c.self.view_is

use Rattle.std.proofs.Common.{sym, ap, ◌∙◌}
use Rattle.std.specs.FinMap as map
use Rattle.abl_base.proofs.TreeEntries.{get_at}
use Rattle.record_locks.proofs.held.Held.lock.Goals as goal

pub returns : goal.returns
returns c =
    c.copied.ensures ∙ c.get.ensures.value ∙ sym (get_at c.self.inside.rows.entries c.args.row) ∙ ap (λ m. map.get m c.args.row) c.self.view_is

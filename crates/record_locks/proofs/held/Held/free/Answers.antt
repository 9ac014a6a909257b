use Rattle.std.proofs.Common.{sym, ap, ◌∙◌, is_some}
use Rattle.std.specs.FinMap as map
use Rattle.abl_base.proofs.TreeEntries.{one_gone, get_at}
use Rattle.record_locks.proofs.held.Held.free.Goals as goal

pub returns-clause-left : goal.returns-clause-left
returns-clause-left c =
    one_gone c.self.inside.rows.entries c.remove.new.self.entries c.args.row c.remove.ensures.updates.0
    ∙ ap (λ m. map.remove m c.args.row) c.self.view_is

pub returns-clause-freed : goal.returns-clause-freed
returns-clause-freed c =
    c.is_some.ensures
    ∙ ap is_some (c.remove.ensures.value ∙ sym (get_at c.self.inside.rows.entries c.args.row) ∙ ap (λ m. map.get m c.args.row) c.self.view_is)

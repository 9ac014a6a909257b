use Rattle.std.proofs.Common.{sym, ap, ◌∙◌, rules}
use Rattle.std.specs.FinMap as map
use Rattle.record_locks.specs.Settled.{has_row, settled}
use Rattle.abl_base.proofs.TreeEntries.{get_at}
use Rattle.record_locks.proofs.Settling.{settled_pairs, frees_some}
use Rattle.record_locks.proofs.held.Held.settle.Goals as goal

pub returns-clause-left : goal.returns-clause-left
returns-clause-left c row =
    get_at c.retain.new.self.entries row
    ∙ settled_pairs _ (has_row c.args.keep.now) _ (λ k v b w f t. search rules) c.self.inside.rows.entries c.retain.new.self.entries c.retain.ensures.filtered row
    ∙ ap (settled (has_row c.args.keep.now row)) (sym (get_at c.self.inside.rows.entries row) ∙ ap (λ m. map.get m row) c.self.view_is)

pub returns-clause-freed : goal.returns-clause-freed
returns-clause-freed c =
    frees_some (has_row c.args.keep.now) c.self.inside.rows c.args.self.now c.retain.ensures.was_ordered c.self.view_is c.frees-freed.result c.frees-freed.ensures

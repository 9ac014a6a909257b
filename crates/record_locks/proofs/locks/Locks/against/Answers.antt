use Rattle.std.proofs.Common.{ℕ, List, sym, subst, ◌∙◌}
use Rattle.database_meaning.specs.Waiting.{ListsAll}
use Rattle.record_locks.specs.declared.locks.Client.{Client}
use Rattle.record_locks.specs.Table.{ConflictsOnLock}
use Rattle.record_locks.proofs.locks.Locks.against.Goals as goal

pub returns : goal.returns
returns c =
    subst (λ (against : List ℕ). ListsAll against (ConflictsOnLock c.args.self.now c.args.client c.args.row.0 c.args.exclusive)) (sym c.from_vec.ensures)
    (subst (λ (table : List Client). ListsAll c.in_ok-listed.listed.items (ConflictsOnLock table c.args.client c.args.row.0 c.args.exclusive)) (c.as_slice.ensures.value ∙ c.self.view_is) c.in_ok-listed.ensures)

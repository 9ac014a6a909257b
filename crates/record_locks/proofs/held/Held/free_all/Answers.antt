use Rattle.record_locks.proofs.Settling.{some_row}
use Rattle.record_locks.proofs.held.Held.free_all.Goals as goal

pub returns-clause-freed : goal.returns-clause-freed
returns-clause-freed c = some_row c.self.inside.rows.entries c.args.self.now c.self.view_is c.is_empty-any.result c.is_empty-any.ensures

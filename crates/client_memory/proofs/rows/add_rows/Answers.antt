use Rattle.client_memory.proofs.Everywhere.{add_step}
use Rattle.client_memory.proofs.rows.add_rows.Goals as goal

pub loop-row-preserved : goal.loop-row-preserved
loop-row-preserved c = add_step c.pop.new.self.items c.loop-row.rows.items c.in-Some.row c.loop-row.kept.items c.add_row.new.rows.items _ c.in-Some.ensures.items c.in_ok-add_row.ensures c.loop-row.invariant

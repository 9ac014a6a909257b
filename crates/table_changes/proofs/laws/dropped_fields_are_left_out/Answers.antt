use Rattle.table_changes.proofs.Dropped.{row-dropped}
use Rattle.table_changes.proofs.Kept.{stored-without-field}
use Rattle.table_changes.proofs.laws.dropped_fields_are_left_out.Goals as goal

pub returns : goal.returns
returns c = record { stored = λ n t names lt is. stored-without-field n t.fields names t.stored lt is; rows = row-dropped }

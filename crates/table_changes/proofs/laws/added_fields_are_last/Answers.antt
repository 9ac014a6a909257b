use Rattle.table_changes.proofs.Added.{row-added, stored-added-field}
use Rattle.table_changes.proofs.laws.added_fields_are_last.Goals as goal

pub returns : goal.returns
returns c = record { stored = λ f t is low. stored-added-field t.fields f t.stored is low; rows = row-added }

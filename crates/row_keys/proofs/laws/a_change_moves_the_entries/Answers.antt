use Rattle.row_keys.proofs.Placed.{made_entries, no_entries, undone_entries}
use Rattle.row_keys.proofs.laws.a_change_moves_the_entries.Goals as goal

pub returns-clause-made : goal.returns-clause-made
returns-clause-made c = made_entries

pub returns-clause-undone : goal.returns-clause-undone
returns-clause-undone c = undone_entries

pub returns-clause-none : goal.returns-clause-none
returns-clause-none c = no_entries

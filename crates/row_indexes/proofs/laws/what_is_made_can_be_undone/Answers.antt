use Rattle.row_indexes.proofs.Made.{all_kept_made, made_can}
use Rattle.row_indexes.proofs.laws.what_is_made_can_be_undone.Goals as goal

pub returns-clause-made : goal.returns-clause-made
returns-clause-made c = made_can

pub returns-clause-kept : goal.returns-clause-kept
returns-clause-kept c = all_kept_made

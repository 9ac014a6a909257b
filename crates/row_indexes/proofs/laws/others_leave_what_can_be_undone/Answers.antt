use Rattle.row_indexes.proofs.Taking.{all_can_apart}
use Rattle.row_indexes.proofs.laws.others_leave_what_can_be_undone.Goals as goal

pub returns : goal.returns
returns c = all_can_apart

use Rattle.block_meaning.proofs.Undone.{undo_gives_variables, undo_leaves_alone}
use Rattle.block_meaning.proofs.Pending.{undo_gives_pending}
use Rattle.block_meaning.proofs.Older.{undo_leaves_older}
use Rattle.block_meaning.proofs.laws.undo_restores_the_copy.Goals as goal

pub returns-clause-variables : goal.returns-clause-variables
returns-clause-variables c = undo_gives_variables

pub returns-clause-alone : goal.returns-clause-alone
returns-clause-alone c = undo_leaves_alone

pub returns-clause-pending : goal.returns-clause-pending
returns-clause-pending c = undo_gives_pending

pub returns-clause-older : goal.returns-clause-older
returns-clause-older c = undo_leaves_older

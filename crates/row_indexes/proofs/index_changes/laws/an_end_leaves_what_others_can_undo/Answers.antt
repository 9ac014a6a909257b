use Rattle.row_indexes.proofs.IndexChangesLemmas.AfterEnd.{ended_all_undone, ended_can_undo_all, freed_all_kept}
use Rattle.row_indexes.proofs.index_changes.laws.an_end_leaves_what_others_can_undo.Goals as goal

pub returns-clause-can : goal.returns-clause-can
returns-clause-can _ client c changes places differ can = ended_can_undo_all client c differ changes places can

pub returns-clause-kept : goal.returns-clause-kept
returns-clause-kept _ client c changes keepers differ kept = freed_all_kept client c differ changes keepers kept

pub returns-clause-undone : goal.returns-clause-undone
returns-clause-undone _ client c changes places differ = ended_all_undone client c differ changes places

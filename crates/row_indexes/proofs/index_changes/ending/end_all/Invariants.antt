use Rattle.row_indexes.proofs.IndexChangesLemmas.Ended.{IsEndedUpTo}
use Rattle.row_indexes.proofs.index_changes.ending.end_all.Given as goal

abbrev pub invariant-loop-index : goal.invariant-loop-index
invariant-loop-index l = IsEndedUpTo l.client l.index-index l.initial.index-items l.index-items

use Rattle.row_moves.proofs.Kept.{begun_indexed, failed_indexed}
use Rattle.row_moves.proofs.laws.indexes_stay_indexed.Goals as goal

pub returns-clause-begins : goal.returns-clause-begins
returns-clause-begins c = begun_indexed

pub returns-clause-fails : goal.returns-clause-fails
returns-clause-fails c = failed_indexed

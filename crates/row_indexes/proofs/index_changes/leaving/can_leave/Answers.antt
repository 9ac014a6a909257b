use Rattle.row_indexes.specs.Places.{keepers_of, places_of}
use Rattle.std.proofs.Common.{length}
use Rattle.row_indexes.proofs.IndexChangesLemmas.Leaves.{all_leave, leaves_can, leaves_within}
use Rattle.row_indexes.proofs.index_changes.leaving.can_leave.Goals as goal

pub returns-clause-within : goal.returns-clause-within
returns-clause-within c is_true =
    leaves_within c.args.client c.args.row (length c.args.indexes.now.items) 0 c.args.moves.now (places_of c.args.indexes.now.items) (keepers_of c.args.indexes.now.items) (c.can_leave_from.ensures.0 is_true)

pub returns-clause-can : goal.returns-clause-can
returns-clause-can c is_true =
    leaves_can c.args.client c.args.row (length c.args.indexes.now.items) 0 c.args.moves.now (places_of c.args.indexes.now.items) (keepers_of c.args.indexes.now.items) (c.can_leave_from.ensures.0 is_true)

pub returns-clause-leaves : goal.returns-clause-leaves
returns-clause-leaves c is_true =
    all_leave c.args.client c.args.row (length c.args.indexes.now.items) 0 c.args.moves.now (places_of c.args.indexes.now.items) (keepers_of c.args.indexes.now.items) (c.can_leave_from.ensures.0 is_true)

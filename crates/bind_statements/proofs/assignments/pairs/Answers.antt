use Rattle.std.proofs.Common.{arith, map}
use Rattle.bound_tree.specs.Bound.{assignment_of}
use Rattle.bind_names.specs.Views.{scene_of}
use Rattle.bind_statements.specs.Views.{assignments_of}
use Rattle.bind_statements.proofs.Lists.{one_more_pair}
use Rattle.bind_statements.proofs.assignments.pairs.Goals as goal

pub loop-one-preserved : goal.loop-one-preserved
loop-one-preserved c =
    one_more_pair (scene_of c.args.scene.now) c.args.all.now c.loop-one.one-index c.one-item.result (map assignment_of c.loop-one.bound.items) (assignments_of c.in_ok-assignment.assignment) _ c.args.notes.now c.loop-one.notes c.pair.new.notes
    (omega arith) c.one-item.is c.in_ok-assignment.ensures c.in_ok-keep.ensures c.loop-one.invariant

use Rattle.std.proofs.Common.{map}
use Rattle.bound_tree.specs.Bound.{assignment_of}
use Rattle.bind_names.specs.Views.{scene_of}
use Rattle.bind_statements.proofs.Lists.{PairsContinue}
use Rattle.bind_statements.proofs.assignments.pairs.Given as goal

abbrev pub invariant-loop-one : goal.invariant-loop-one
invariant-loop-one l = PairsContinue (scene_of l.scene) l.all l.one-index (map assignment_of l.bound.items) l.notes l.fn.notes

use Rattle.std.proofs.Common.{map}
use Rattle.bound_tree.specs.Bound.{argument_of}
use Rattle.bind_names.specs.Views.{scene_of}
use Rattle.bind_statements.proofs.Arguments.{WalkContinues}
use Rattle.bind_statements.proofs.runs.walk.Given as goal

abbrev pub invariant-loop-i : goal.invariant-loop-i
invariant-loop-i l = WalkContinues (scene_of l.scene) l.formals l.given l.i (map argument_of l.bound.items) l.notes l.fn.notes

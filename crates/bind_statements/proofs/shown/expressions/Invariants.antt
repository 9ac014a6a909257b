use Rattle.std.proofs.Common.{drop, map}
use Rattle.syntax_tree.specs.Typed.{expression_of}
use Rattle.bound_tree.specs.Bound.{expr_of}
use Rattle.bind_names.specs.Views.{scene_of}
use Rattle.bind_statements.specs.Views.{expr_in}
use Rattle.bind_statements.proofs.Lists.{ListContinues}
use Rattle.bind_statements.proofs.shown.expressions.Given as goal

abbrev pub invariant-loop-one : goal.invariant-loop-one
invariant-loop-one l = ListContinues (expr_in (scene_of l.scene)) (map expression_of l.all) (map expression_of (drop l.one-index l.all)) (map expr_of l.bound.items) l.notes l.fn.notes

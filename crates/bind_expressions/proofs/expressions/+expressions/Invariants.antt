use Rattle.bound_tree.specs.Bound.{chain_of, expr_of}
use Rattle.syntax_tree.specs.Syntax.{Expression}
use Rattle.bind_names.specs.declared.notes.Notes.{Notes}
use Rattle.bind_names.specs.Views.{IsJudged, scene_of}
use Rattle.bind_expressions.specs.Expressions.{expression, typed}
use Rattle.bind_expressions.specs.Views.{typed_of}
use Rattle.bind_expressions.proofs.Noted.{ChainContinues}
use Rattle.bind_expressions.proofs.Calls.{CallContinues}
use Rattle.bind_expressions.proofs.expressions.+expressions.Given as goal

abbrev pub invariant-links-loop-link : goal.invariant-links-loop-link
invariant-links-loop-link l = (a : Expression) (begun : Notes) → IsJudged (expression (scene_of l.scene) a) (typed_of l.first) begun l.fn.notes →
    ChainContinues (scene_of l.scene) a l.rest l.link-index (typed (chain_of (expr_of l.first.expr) l.bound.items) l.sort) l.notes begun

abbrev pub invariant-call-loop-e : goal.invariant-call-loop-e
invariant-call-loop-e l = CallContinues (scene_of l.scene) l.function l.given l.e-index l.bound l.good l.notes l.fn.notes

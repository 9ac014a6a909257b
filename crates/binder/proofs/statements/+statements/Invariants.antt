use Rattle.std.proofs.Common.{◌≡◌}
use Rattle.bound_tree.specs.Bound.{body_of}
use Rattle.bind_names.specs.Views.{scene_of}
use Rattle.bind_expressions.specs.Parts.{scene_after}
use Rattle.binder.proofs.Onward.{BodyContinues}
use Rattle.binder.proofs.statements.+statements.Given as goal

abbrev pub invariant-body-loop-one : goal.invariant-body-loop-one
invariant-body-loop-one l = record {
  place : scene_of l.scene ≡ scene_after (scene_of l.fn.scene) l.scene.known;
  rest : BodyContinues (scene_of l.fn.scene) l.all l.one-index (scene_of l.scene) (body_of l.bound.items) l.notes l.fn.notes;
}

use Rattle.std.proofs.Common.{◌≡◌}
use Rattle.bind_names.specs.Views.{scene_of}
use Rattle.bind_expressions.specs.Parts.{scene_after}
use Rattle.binder.specs.Groups.{IsGrouped}
use Rattle.binder.proofs.Walk.{ItemsContinue}
use Rattle.binder.proofs.sources.all_items.Given as goal

abbrev pub invariant-loop-one : goal.invariant-loop-one
invariant-loop-one l = record {
  place : scene_of l.scene ≡ scene_after (scene_of l.fn.scene) l.scene.known;
  rest : IsGrouped (scene_of l.fn.scene).context.namings l.groups → ItemsContinue (scene_of l.fn.scene) l.all l.one-index (scene_of l.scene) l.parts l.notes l.fn.notes;
}

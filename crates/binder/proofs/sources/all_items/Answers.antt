use Rattle.std.proofs.Common.{◌∙◌, ap, refl, arith}
use Rattle.bind_names.specs.Names.{Scene}
use Rattle.bind_names.specs.Views.{scene_of}
use Rattle.bind_expressions.specs.Parts.{scene_after}
use Rattle.binder.proofs.Grouped.{still_grouped}
use Rattle.binder.proofs.Walk.{items_begin, items_judged, one_more_item}
use Rattle.binder.proofs.sources.all_items.Goals as goal

pub loop-one-init : goal.loop-one-init
loop-one-init c = record {
  place = refl;
  rest = λ grouped. items_begin (scene_of c.args.scene.now) (scene_of c.args.scene.now) c.args.all.now _ c.args.notes.now refl c.new.ensures.items c.new-2.ensures.items c.empty.ensures;
}

pub loop-one-preserved : goal.loop-one-preserved
loop-one-preserved c = record {
  place = c.in_ok-item.ensures.scene ∙ ap (λ (p : Scene). scene_after p c.item.new.scene.known) c.loop-one.invariant.place;
  rest = λ grouped.
      one_more_item (scene_of c.args.scene.now) c.args.all.now c.loop-one.one-index c.one-item.result (scene_of c.loop-one.scene) (scene_of c.item.new.scene) c.loop-one.parts c.item.new.parts
      c.args.notes.now c.loop-one.notes c.item.new.notes (omega arith) c.one-item.is
      (c.in_ok-item.ensures.judged (still_grouped (scene_of c.args.scene.now) (scene_of c.loop-one.scene) c.loop-one.scene.known c.args.groups.now c.loop-one.invariant.place grouped))
      c.in_ok-item.ensures.scene (c.loop-one.invariant.rest grouped);
}

pub returns-clause-judged : goal.returns-clause-judged
returns-clause-judged c = λ grouped.
    items_judged (scene_of c.args.scene.now) c.args.all.now c.loop-one.one-index (scene_of c.loop-one.scene) c.loop-one.parts c.args.notes.now c.loop-one.notes (omega arith) (c.loop-one.invariant.rest grouped)

pub returns-clause-scene : goal.returns-clause-scene
returns-clause-scene c = c.loop-one.invariant.place

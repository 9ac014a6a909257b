use Rattle.std.proofs.Common.{map}
use Rattle.bound_tree.specs.Bound.{source_of}
use Rattle.syntax_tree.specs.Typed.{item_of}
use Rattle.bind_names.specs.Views.{scene_of}
use Rattle.binder.specs.Items.{bound_parts}
use Rattle.binder.proofs.Grouped.{still_own}
use Rattle.binder.proofs.Walk.{items_done}
use Rattle.binder.proofs.sources.judged_from.Goals as goal

pub returns : goal.returns
returns c = λ grouped.
    let is_own = c.in_procedure-own.ensures c.args.scene.now.namings.now grouped in
    items_done (scene_of c.args.scene.now) (scene_of c.all_items.new.scene) (map item_of c.args.all.now) c.in_ok-parts.ensures.scene
    (bound_parts c.in_ok-parts.parts c.all_items.new.scene.known) c.args.notes.now c.all_items.new.notes (c.in_ok-parts.ensures.judged grouped) (source_of c.in_ok-made.made)
    (c.in_ok-made.ensures (still_own (scene_of c.args.scene.now) (scene_of c.all_items.new.scene) c.all_items.new.scene.known c.in_procedure-own.result.now c.in_ok-parts.ensures.scene is_own))

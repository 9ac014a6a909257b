use Rattle.std.proofs.Common.{arith, map}
use Rattle.syntax_tree.specs.Typed.{put_item_of}
use Rattle.bound_tree.specs.Bound.{item_of}
use Rattle.bind_names.specs.Views.{scene_of}
use Rattle.bind_statements.specs.Shown.{put_item}
use Rattle.bind_statements.proofs.Lists.{list_judged, mapped_push, next_mapped, none_mapped, one_more_item}
use Rattle.bind_statements.proofs.shown.put_items.Goals as goal

pub loop-one-preserved : goal.loop-one-preserved
loop-one-preserved c =
    one_more_item (put_item (scene_of c.args.scene.now) c.args.plain) (map put_item_of c.args.all.now) _ _ _ (map item_of c.loop-one.bound.items) _ (item_of c.in_ok-item.item) _ _ c.args.notes.now
    (next_mapped put_item_of c.args.all.now c.loop-one.one-index c.one-item.result (omega arith) c.one-item.is) c.in_ok-item.ensures
    (mapped_push item_of c.loop-one.bound.items _ c.in_ok-item.item c.in_ok-push.ensures.items) c.loop-one.invariant

pub returns : goal.returns
returns c =
    list_judged (put_item (scene_of c.args.scene.now) c.args.plain) (map put_item_of c.args.all.now) _ (map item_of c.loop-one.bound.items) _ c.args.notes.now
    (none_mapped put_item_of c.args.all.now c.loop-one.one-index (omega arith)) c.loop-one.invariant

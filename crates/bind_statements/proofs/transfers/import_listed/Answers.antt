use Rattle.std.proofs.Common.{arith}
use Rattle.bind_names.specs.Views.{scene_of}
use Rattle.bind_statements.specs.Streams.{import_target}
use Rattle.bind_statements.proofs.Lists.{list_judged, next_item, none_left, one_more_item}
use Rattle.bind_statements.proofs.transfers.import_listed.Goals as goal

pub loop-one-preserved : goal.loop-one-preserved
loop-one-preserved c =
    one_more_item (import_target (scene_of c.args.scene.now)) c.args.names.now _ _ _ c.loop-one.bound.items _ c.in_ok-target.target _ _ c.args.notes.now
    (next_item c.args.names.now c.loop-one.one-index c.one-item.result (omega arith) c.one-item.is) c.in_ok-target.ensures c.in_ok-push.ensures.items c.loop-one.invariant

pub returns : goal.returns
returns c =
    list_judged (import_target (scene_of c.args.scene.now)) c.args.names.now _ c.loop-one.bound.items _ c.args.notes.now
    (none_left c.args.names.now c.loop-one.one-index (omega arith)) c.loop-one.invariant

use Rattle.std.proofs.Common.{arith}
use Rattle.bind_names.specs.Views.{maybe_buffer_of, scene_of}
use Rattle.bind_blocks.specs.Records.{nothing_asked}
use Rattle.bind_blocks.proofs.Options.{asked_judged, one_more_asked}
use Rattle.bind_blocks.proofs.records.record_options.Goals as goal

pub loop-one-preserved : goal.loop-one-preserved
loop-one-preserved c =
    one_more_asked (scene_of c.args.scene.now) (maybe_buffer_of c.args.buffer) (nothing_asked (scene_of c.args.scene.now) (maybe_buffer_of c.args.buffer)) c.args.given.now c.loop-one.one-index c.one-item.result c.loop-one.so_far c.in_ok-so_far.so_far c.args.notes.now c.loop-one.notes c.record_option.new.notes
    (omega arith) c.one-item.is c.in_ok-so_far.ensures c.loop-one.invariant

pub returns : goal.returns
returns c =
    asked_judged (scene_of c.args.scene.now) (maybe_buffer_of c.args.buffer) (nothing_asked (scene_of c.args.scene.now) (maybe_buffer_of c.args.buffer)) c.args.given.now c.loop-one.one-index c.loop-one.so_far c.args.notes.now c.loop-one.notes (omega arith) c.loop-one.invariant

use Rattle.std.proofs.Common.{arith}
use Rattle.bind_names.specs.Views.{maybe_buffer_of, scene_of}
use Rattle.bind_blocks.proofs.Strong.{one_more_strong, strong_judged}
use Rattle.bind_blocks.proofs.openings.strong.Goals as goal

pub loop-buffer-preserved : goal.loop-buffer-preserved
loop-buffer-preserved c =
    one_more_strong (scene_of c.args.scene.now) c.args.buffers.now c.loop-buffer.buffer-index c.buffer-item.result (maybe_buffer_of c.in_ok-_found._found) c.args.notes.now c.loop-buffer.notes c.wanted_buffer.new.notes
    (omega arith) c.buffer-item.is c.in_ok-_found.ensures c.loop-buffer.invariant

pub returns : goal.returns
returns c = strong_judged (scene_of c.args.scene.now) c.args.word c.args.buffers.now c.loop-buffer.buffer-index c.args.notes.now c.loop-buffer.notes (omega arith) c.loop-buffer.invariant

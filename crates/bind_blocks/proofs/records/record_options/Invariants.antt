use Rattle.bind_names.specs.Views.{maybe_buffer_of, scene_of}
use Rattle.bind_blocks.specs.Records.{nothing_asked}
use Rattle.bind_blocks.proofs.Options.{AskedContinue}
use Rattle.bind_blocks.proofs.records.record_options.Given as goal

abbrev pub invariant-loop-one : goal.invariant-loop-one
invariant-loop-one l =
    AskedContinue (scene_of l.scene) (maybe_buffer_of l.buffer) (nothing_asked (scene_of l.scene) (maybe_buffer_of l.buffer)) l.given l.one-index l.so_far l.notes l.fn.notes

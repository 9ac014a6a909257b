use Rattle.bind_names.specs.Views.{scene_of}
use Rattle.bind_blocks.proofs.Strong.{StrongContinue}
use Rattle.bind_blocks.proofs.openings.strong.Given as goal

abbrev pub invariant-loop-buffer : goal.invariant-loop-buffer
invariant-loop-buffer l = StrongContinue (scene_of l.scene) l.buffers l.buffer-index l.notes l.fn.notes

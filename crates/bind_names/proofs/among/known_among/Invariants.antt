use Rattle.bind_names.specs.Among.{is_known}
use Rattle.bind_names.specs.Views.{maybe_buffer_of, scene_of}
use Rattle.bind_names.proofs.Having.{Passed}
use Rattle.bind_names.proofs.among.known_among.Given as goal

abbrev pub invariant-loop-buffer : goal.invariant-loop-buffer
invariant-loop-buffer l = Passed (is_known (scene_of l.scene)) l.buffers l.buffer-index (maybe_buffer_of l.first)

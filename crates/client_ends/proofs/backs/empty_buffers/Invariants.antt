use Rattle.std.proofs.Common.{◌≡◌, drop}
use Rattle.client_ends.specs.Emptied.{all_emptied}
use Rattle.client_ends.proofs.backs.empty_buffers.Given as goal

abbrev pub invariant-loop-buffer : goal.invariant-loop-buffer
invariant-loop-buffer l = all_emptied (drop l.buffer-index l.buffers) l.memory ≡ all_emptied l.buffers l.initial.memory

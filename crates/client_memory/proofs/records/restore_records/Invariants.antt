use Rattle.std.proofs.Common.{◌≡◌, vec_len}
use Rattle.client_memory.specs.Memory.{buffers_restored}
use Rattle.client_memory.proofs.records.restore_records.Given as goal

abbrev pub invariant-loop-contents : goal.invariant-loop-contents
invariant-loop-contents l = buffers_restored l.saved.items l.frames.items ≡ buffers_restored l.initial.saved.items l.initial.frames.items

abbrev pub decreases-loop-contents : goal.decreases-loop-contents
decreases-loop-contents l = vec_len l.saved

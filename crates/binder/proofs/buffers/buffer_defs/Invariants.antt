use Rattle.std.proofs.Common.{◌≡◌, ◌++◌, drop, map}
use Rattle.binder.specs.Sources.{buffer_def}
use Rattle.binder.proofs.buffers.buffer_defs.Given as goal

abbrev pub invariant-loop-buffer : goal.invariant-loop-buffer
invariant-loop-buffer l = l.defs.items ++ map buffer_def (drop l.buffer-index l.buffers) ≡ map buffer_def l.buffers

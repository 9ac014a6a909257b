-- What no change of a buffer touches.
use Rattle.buffer_steps.specs.reads.Fixed.{Fixed}
use Rattle.buffer_steps.specs.declared.buffers.running.RunningBuffers.{RunningBuffers}

-- the numbers of the open procedures, the copies of the open levels, and which memory it is
abbrev pub fixed_of : RunningBuffers → Fixed
fixed_of b = record { procedures = b.procedures.now; copies = b.memory.now.copies; reference = b.memory.ghost_name }

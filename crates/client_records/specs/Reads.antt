-- When a machine has what the buffers of a state hold.
use Rattle.std.specs.Prelude.{length}
use Rattle.block_meaning.specs.Program.{Program}
use Rattle.block_meaning.specs.State.{State}
use Rattle.client_values.specs.Reads.{Reads}
use Rattle.client_machine.specs.declared.machine.Machine.{Machine}

-- its variables, buffers, ERROR-STATUS and RETURN-VALUE are those of its state, which has these other fields
abbrev pub ReadsOf : Program → State → Machine → Type 0
ReadsOf p rest m = Reads p (record rest { level = length m.memory.copies; units = m.units }) m.procedures.items m.memory m.status m.returned

-- What the parts of a step keep.
use Rattle.std.specs.Prelude.{List}
use Rattle.flat_machine.specs.Flat as flat
use Rattle.block_code.specs.declared.code.Instr.{Instr}
use Rattle.client_machine.specs.declared.machine.Machine.{Machine}
use Rattle.client_machine.specs.Machine.{stack_in}
use Rattle.client_machine.specs.KeepsFrom.{KeepsFrom}

-- the instructions of a machine
abbrev pub instrs_in : Machine → List Instr
instrs_in m = m.code.instrs.items

-- the machine keeps the rest of the run from a task, above its stack
abbrev pub KeepsExecuted : flat.Task → Machine → Machine → Type 0
KeepsExecuted t old new = KeepsFrom (λ p s. flat.config (flat.Execute t) (stack_in old) s) old new

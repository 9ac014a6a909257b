-- The configuration that a machine denotes.
use Rattle.std.specs.Prelude.{List, reverse}
use Rattle.block_meaning.specs.State.{State}
use Rattle.flat_machine.specs.Flat.{Config, StackEntry, config}
use Rattle.client_machine.specs.declared.machine.Machine.{Machine}
use Rattle.client_machine.specs.Config.{mode_of, stack_of, state_of}

-- its stack
abbrev pub stack_in : Machine → List StackEntry
stack_in m = stack_of m.code.instrs.items m.memory.copies (reverse m.stack.items)

-- its state
abbrev pub state_in : State → Machine → State
state_in rest m = state_of rest m.procedures.items m.memory m.units

-- its configuration
abbrev pub config_of : State → Machine → Config
config_of rest m = config (mode_of m.code.instrs.items m.memory.copies m.mode) (stack_in m) (state_in rest m)

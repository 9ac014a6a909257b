-- The buffers of the running procedure, in a state.
use Rattle.std.specs.Prelude.{◌≡◌}
use Rattle.abl_values.specs.Schema.{SchemaData}
use Rattle.block_meaning.specs.Program.{Program}
use Rattle.block_meaning.specs.State.{State}
use Rattle.client_memory.specs.Frames.{state_with}
use Rattle.client_values.specs.Reads.{Reads}
use Rattle.buffer_steps.specs.declared.buffers.running.RunningBuffers.{RunningBuffers}

-- they are those of the program, where the state has these other fields
abbrev pub Fits : Program → State → RunningBuffers → Type 0
Fits p rest b = Reads p rest b.procedures.now b.memory.now b.error b.returned.now

-- the state that has them, and the other fields of another state
abbrev pub state_of : State → RunningBuffers → State
state_of rest b = state_with rest b.procedures.now b.memory.now

-- the tables of the program are those of the schema
abbrev pub HasTables : Program → SchemaData → Type 0
HasTables p schema = p.tables ≡ schema.tables

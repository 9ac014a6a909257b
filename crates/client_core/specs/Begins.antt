-- The machine of a client that has not begun.
use Rattle.std.specs.Prelude.{◌≡◌, ◌+◌, ℕ, List, [], ◌∷◌, None, false, replicate, map}
use Rattle.block_meaning.specs.Meaning.{new_buffer}
use Rattle.client_memory.specs.Memory.{Remembered}
use Rattle.client_output.specs.Written.{HasWritten}
use Rattle.block_code.specs.declared.code.ProcedureCode.{ProcedureCode}
use Rattle.block_code.specs.declared.code.Code.{Code}
use Rattle.client_machine.specs.declared.inputs.Inputs.{Inputs}
use Rattle.client_machine.specs.declared.inputs.Stream.{Stream}
use Rattle.client_machine.specs.declared.machine.Machine.{Machine}
use Rattle.client_machine.specs.declared.mode.Mode.TheVariants as mode
use Rattle.client_machine.specs.declared.mode.Task.TheVariants as task

-- the memory has the initial values and empty buffers of the first procedure, and no other
abbrev pub HasFirst : Remembered → List ProcedureCode → Type 0
HasFirst m [] = ⊥
HasFirst m (c ∷ cs) = m ≡ record { undoable = c.undoable ∷ []; no_undo = c.no_undo ∷ []; buffers = map new_buffer c.buffers.items ∷ []; copies = [] }

-- the place of the first procedure
abbrev pub IsFirst : ℕ → List ProcedureCode → Type 0
IsFirst place [] = Unit {0}
IsFirst place (c ∷ cs) = place ≡ c.place

-- a stream at which nothing is opened
abbrev pub no_stream : Stream
no_stream = record { output = None; input = None; at = 0 }

-- a machine with this code and these inputs that has done nothing yet
pub record Begins (m : Machine) (code : Code) (inputs : Inputs) (units : ℕ) : Type 0 where
  pub place : ℕ
  pub first : IsFirst place code.procedures.items
  pub code_is : m.code ≡ code
  pub inputs_are : m.inputs ≡ inputs
  pub mode_is : m.mode ≡ mode.Execute (task.Blocks place false 32)
  pub stack_is : m.stack.items ≡ []
  pub procedures_are : m.procedures.items ≡ 0 ∷ []
  pub memory_is : HasFirst m.memory code.procedures.items
  pub units_are : m.units ≡ units
  pub made_is : m.made ≡ 0
  pub status_is : m.status ≡ false
  pub returned_is : m.returned ≡ []
  pub streams_are : m.streams.items ≡ replicate (code.streams + 1) no_stream
  pub at_is : m.own_at ≡ 0
  pub size_is : m.output.size ≡ 0
  pub has : (names : List (List ℕ)) → HasWritten m.output names []

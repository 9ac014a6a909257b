-- The iteration that an entry closes.
use Rattle.std.specs.Prelude.{List}
use Rattle.block_meaning.specs.State as state
use Rattle.block_meaning.specs.State.{Copy}
use Rattle.block_meaning.specs.Blocks.{after_iteration}
use Rattle.block_code.specs.declared.code.Instr.{Instr}
use Rattle.client_machine.specs.declared.mode.Completion.{Completion}
use Rattle.client_machine.specs.declared.mode.ends.EndEntry.{EndEntry}
use Rattle.client_machine.specs.declared.mode.ends.EndEntry.TheVariants as end_entry
use Rattle.client_machine.specs.Config.{completion_of, header_at, iteration_of}

-- how its body has completed
abbrev pub completion_in : EndEntry → Completion
completion_in (end_entry.AfterClosing k it w) = w

-- the completion after it
abbrev pub closed_of : List Instr → List Copy → EndEntry → state.Completion
closed_of code cs (end_entry.AfterClosing k it w) = after_iteration (header_at code k) (iteration_of cs it) (completion_of code cs w)

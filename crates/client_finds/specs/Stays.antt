-- What a reading reads of a machine, and what it leaves as it is.
use Rattle.std.specs.Prelude.{◌≡◌, ℕ, List}
use Rattle.block_meaning.specs.Program.{Program}
use Rattle.block_meaning.specs.State.{State}
use Rattle.client_memory.specs.Memory.{Remembered}
use Rattle.client_memory.specs.Frames.{AreEven, state_with}
use Rattle.client_values.specs.Reads.{Reads}
use Rattle.client_machine.specs.declared.machine.Machine.{Machine}

-- its memory fits the program, where the state has these other fields
abbrev pub ReadsIn : Program → State → Machine → Type 0
ReadsIn p rest m = Reads p rest m.procedures.items m.memory m.status m.returned

-- the state that has its memory, and the other fields of another state
abbrev pub state_under : State → Machine → State
state_under rest m = state_with rest m.procedures.items m.memory

-- the procedures with these numbers are open still, and the copies of the levels are the same
pub record Stays (ns : List ℕ) (old new : Remembered) : Type 0 where
  pub even : AreEven ns new
  pub copies : new.copies ≡ old.copies

-- the same, of the memory of a machine that fits a program
abbrev pub StaysIn : Machine → Remembered → Type 0
StaysIn old new = (p : Program) (rest : State) → ReadsIn p rest old → Stays old.procedures.items old.memory new

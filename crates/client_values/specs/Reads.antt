-- When a state is the one that a call reads.
use Rattle.std.specs.Prelude.{◌≡◌, ℕ, List, Bool}
use Rattle.evaluator.specs.Forms.{AreForms}
use Rattle.block_meaning.specs.Program.{Program}
use Rattle.block_meaning.specs.State.{State}
use Rattle.client_memory.specs.Memory.{Remembered}
use Rattle.client_values.specs.Variables.{AreEven}

-- the procedures agree in number with the variables, and ERROR-STATUS and RETURN-VALUE are these
pub record Reads (p : Program) (rest : State) (ns : List ℕ) (m : Remembered) (status : Bool) (returned : List ℕ) : Type 0 where
  pub forms : AreForms p.forms
  pub even : AreEven ns m
  pub status_is : rest.status ≡ status
  pub returned_is : rest.returned ≡ returned

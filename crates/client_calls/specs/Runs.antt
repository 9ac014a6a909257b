-- A RUN in the code: what it passes, what begins, and what it gives back.
use Rattle.std.specs.Prelude.{◌≡◌, ℕ, List, Bool, Some, Result, slice_get}
use Rattle.abl_base.specs.declared.value.Value.{Value}
use Rattle.evaluator.specs.declared.fault.EvalFault.{EvalFault}
use Rattle.bound_tree.specs.Tree.{Run}
use Rattle.block_meaning.specs.Program.{Program, procedure_at}
use Rattle.block_meaning.specs.State.{State}
use Rattle.block_meaning.specs.Meaning.{argument_values}
use Rattle.flat_machine.specs.Flat as flat
use Rattle.client_memory.specs.Memory.{Remembered, IsOuter, ended}
use Rattle.client_values.specs.Reads.{Reads}
use Rattle.client_values.specs.Variables.{state_with}
use Rattle.block_code.specs.declared.code.Code.{Code}
use Rattle.block_code.specs.declared.code.ProcedureCode.{ProcedureCode}
use Rattle.client_machine.specs.Inputs.{AreProceduresOf}
use Rattle.client_machine.specs.Config.{instr_at, run_arguments, run_procedure}
use Rattle.client_calls.specs.declared.runs.RunAt.{RunAt}
use Rattle.client_calls.specs.declared.runs.Begun.{Begun}
use Rattle.client_calls.specs.Calls.{EvaluatesAll, Opens, outputs_of, all_set}

-- the instruction is this RUN
abbrev pub IsRunAt : RunAt → flat.Instr → Type 0
IsRunAt run i = i ≡ flat.Plain (Run (run_procedure i) (run_arguments i) run.no_error) run.next

-- the code of the procedure that the RUN at the place runs
abbrev pub IsFound : ProcedureCode → Code → ℕ → Type 0
IsFound c code k = slice_get code.procedures.items (run_procedure (instr_at code.instrs.items k)) ≡ Some c

-- the values that the RUN at the place passes, where the code is that of the program
abbrev pub Passes : Result (List Value) EvalFault → Code → Remembered → ℕ → Bool → List ℕ → Bool → Type 0
Passes r code m k status returned retry = (p : Program) (rest : State) (ns : List ℕ) → AreProceduresOf code.instrs.items code.procedures.items p.source.procedures → Reads p rest ns m status returned →
    EvaluatesAll r (argument_values p (run_arguments (instr_at code.instrs.items k)) (procedure_at p (run_procedure (instr_at code.instrs.items k))).parameters retry (state_with rest ns m))

-- its procedure begins
pub record Begins (begun : Begun) (code : Code) (k : ℕ) (vs : List Value) (old new : Remembered) : Type 0 where
  pub procedure : ProcedureCode
  pub found : IsFound procedure code k
  pub number_is : begun.number ≡ run_procedure (instr_at code.instrs.items k)
  pub place_is : begun.place ≡ procedure.place
  pub opens : Opens procedure (run_arguments (instr_at code.instrs.items k)) vs old new

-- its procedure ends, with outputs
pub record Returns (code : Code) (k : ℕ) (old new : Remembered) : Type 0 where
  pub procedure : ProcedureCode
  pub found : IsFound procedure code k
  pub is : IsOuter old → new ≡ all_set (outputs_of (run_arguments (instr_at code.instrs.items k)) procedure.parameters.items old) (ended old)

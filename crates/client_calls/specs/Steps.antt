-- The statement RUN, between its parts.
use Rattle.std.specs.Prelude.{◌≡◌, ℕ, List, ◌∷◌, Bool, true, false}
use Rattle.block_meaning.specs.Program.{Program, procedure_at}
use Rattle.block_meaning.specs.State.{State}
use Rattle.block_meaning.specs.Values.{EvaluatedAll}
use Rattle.block_meaning.specs.Meaning.{argument_values}
use Rattle.flat_machine.specs.Flat as flat
use Rattle.flat_machine.specs.Steps.{given_all_step}
use Rattle.block_code.specs.declared.code.Instr.{Instr}
use Rattle.client_machine.specs.declared.machine.Machine.{Machine}
use Rattle.client_machine.specs.Config.{instr_at, run_arguments, run_procedure, AreEven}
use Rattle.client_machine.specs.Inputs.{IsProgramOf}
use Rattle.client_machine.specs.Machine.{config_of, stack_in, state_in}
use Rattle.client_machine.specs.Step.{RestFits}
use Rattle.client_calls.specs.declared.runs.RunAt.{RunAt}

-- ERROR-STATUS:ERROR once a statement has begun, under NO-ERROR or not
abbrev pub status_after : Bool → Bool → Bool
status_after true status = false
status_after false status = status

-- where the arguments have values, the procedure begins
abbrev pub values_step : List Instr → ℕ → ℕ → EvaluatedAll → List flat.StackEntry → State → flat.Config
values_step code k left e ks s = given_all_step e (λ vs s. flat.config (flat.Execute (flat.Calls left (run_procedure (instr_at code k)) (run_arguments (instr_at code k)) vs)) ks s) ks s

-- the arguments of the RUN at a place were evaluated, after its unit was charged
abbrev pub EvaluatesRun : RunAt → ℕ → ℕ → Bool → Machine → Machine → Type 0
EvaluatesRun run k left retry old new = (p : Program) (rest : State) → IsProgramOf p old.code old.inputs → RestFits rest old → AreEven old.procedures.items old.memory →
    config_of rest new ≡ values_step old.code.instrs.items k left (argument_values p (run_arguments (instr_at old.code.instrs.items k)) (procedure_at p (run_procedure (instr_at old.code.instrs.items k))).parameters retry (state_in rest old)) (flat.Handles run.no_error ∷ flat.ThenDo (flat.RunsFrom run.next left retry) ∷ stack_in old) (state_in rest old)

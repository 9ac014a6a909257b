-- What each step and each answer keeps.
use Rattle.std.specs.Prelude.{◌≡◌, ◌<◌, ◌≤◌, length, ℕ, Bool, List, [], ◌∷◌, ◌++◌, Option, reverse, map}
use Rattle.database_protocol.specs.declared.answer.Answer.{Answer}
use Rattle.database_protocol.specs.declared.operation.Op.TheVariants as op
use Rattle.bound_tree.specs.Tree.{Body}
use Rattle.block_meaning.specs.declared.wants.Piece.{Piece}
use Rattle.database_protocol.specs.declared.next_step.NextStep.{NextStep}
use Rattle.database_protocol.specs.declared.next_step.NextStep.TheVariants as next_step
use Rattle.block_meaning.specs.State.{State, nothing_passed}
use Rattle.block_meaning.specs.State as state
use Rattle.block_meaning.specs.Blocks.{complained}
use Rattle.block_meaning.specs.Program.{Program}
use Rattle.block_meaning.specs.Meaning.{finished}
use Rattle.block_meaning.specs.GivesUp.{Begins}
use Rattle.flat_machine.specs.Flat.{Code, Config, IsCodeOf, config, errs_step, Completes, Execute, Unwind, means}
use Rattle.client_output.specs.Written.{HasWritten}
use Rattle.block_code.specs.Code.{place_of}
use Rattle.client_machine.specs.declared.machine.Machine.{Machine}
use Rattle.client_machine.specs.declared.mode.Mode.{Mode}
use Rattle.client_machine.specs.declared.mode.Mode.TheVariants as mode
use Rattle.client_machine.specs.declared.mode.Task.{Task}
use Rattle.client_machine.specs.declared.mode.Completion.{Completion}
use Rattle.client_machine.specs.declared.mode.Completion.TheVariants as completion
use Rattle.client_machine.specs.declared.mode.LineFault.{LineFault}
use Rattle.client_machine.specs.declared.mode.StackEntry.{StackEntry}
use Rattle.client_machine.specs.Config.{instr_at, body_at, task_of, completion_of, complaint_if, entry_of, AreEven}
use Rattle.client_machine.specs.declared.inputs.Stream.{Stream}
use Rattle.client_machine.specs.Inputs.{IsProgramOf, names_of, stream_of}
use Rattle.client_machine.specs.Machine.{config_of, stack_in, state_in}
use Rattle.client_machine.specs.Order.{nesting_of, ModeInOrder, HaveDepths, CompletesInOrder}

-- the code of a machine
abbrev pub code_in : Machine → Code
code_in m = record { instr = instr_at m.code.instrs.items; entry = λ n. body_at m.code.instrs.items (place_of m.code.procedures.items n) }

-- the fields that the state has and the configuration does not show
pub record StateFits (rest : State) (made : ℕ) (status : Bool) (returned : List ℕ) (size : ℕ) (streams : List Stream) (own_at : ℕ) : Type 0 where
  pub made_is : rest.made ≡ made
  pub status_is : rest.status ≡ status
  pub returned_is : rest.returned ≡ returned
  pub size_is : rest.size ≡ size
  pub streams_are : rest.streams ≡ map stream_of streams
  pub at_is : rest.at ≡ own_at

-- the same of a machine
abbrev pub RestFits : State → Machine → Type 0
RestFits rest m = StateFits rest m.made m.status m.returned m.output.size m.streams.items m.own_at

-- the invariant between two steps, where the mode is this one
pub record FitsIn (p : Program) (rest : State) (mode : Mode) (m : Machine) : Type 0 where
  pub program : IsProgramOf p m.code m.inputs
  pub state : RestFits rest m
  pub even : AreEven m.procedures.items m.memory
  pub whole : HaveDepths 0 m.memory.copies
  pub order : ModeInOrder (nesting_of m.memory) mode (reverse m.stack.items)

abbrev pub Fits : Program → State → Machine → Type 0
Fits p rest m = FitsIn p rest m.mode m

-- from a configuration in which it had written these pieces, and after these answers, the machine keeps the rest of the run
pub record RunKept (tree : ℕ → Body) (p : Program) (before : Config) (answered : List Answer) (written : List Piece) (old new : Machine) : Type 0 where
  pub rest : State
  pub code : new.code ≡ old.code
  pub fits : Fits p rest new
  pub more : Begins written rest.written
  pub has : HasWritten old.output (names_of old.code) written → HasWritten new.output (names_of old.code) rest.written
  pub same : (ans : List Answer) → means tree p before (answered ++ ans) ≡ means tree p (config_of rest new) ans

-- a step, or an answer
abbrev pub KeepsRun : List Answer → Machine → Machine → Type 0
KeepsRun answered old new = (tree : ℕ → Body) (p : Program) (rest : State) → IsCodeOf (code_in old) p tree → Fits p rest old → RunKept tree p (config_of rest old) answered rest.written old new

-- the step of a task
abbrev pub KeepsTask : Task → Machine → Machine → Type 0
KeepsTask task old new = (tree : ℕ → Body) (p : Program) (rest : State) → IsCodeOf (code_in old) p tree → FitsIn p rest (mode.Execute task) old → RunKept tree p (config (Execute (task_of old.code.instrs.items old.memory.copies task)) (stack_in old) (state_in rest old)) [] rest.written old new

-- it asks for this
abbrev pub NextStepIs : NextStep → Machine → Type 0
NextStepIs wants m = (tree : ℕ → Body) (p : Program) (rest : State) → Fits p rest m → finished (means tree p (config_of rest m) []) ≡ record { written = rest.written; wants = wants }

-- the step of a completion
abbrev pub KeepsCompletion : Completion → Machine → Machine → Type 0
KeepsCompletion completion old new = (tree : ℕ → Body) (p : Program) (rest : State) → IsCodeOf (code_in old) p tree → FitsIn p rest (mode.Unwind completion) old → RunKept tree p (config (Unwind (completion_of old.code.instrs.items old.memory.copies completion)) (stack_in old) (state_in rest old)) [] rest.written old new

-- the invariant where this entry was the innermost one, and this completion reaches it
pub record EntryFits (p : Program) (rest : State) (entry : StackEntry) (completion : Completion) (m : Machine) : Type 0 where
  pub program : IsProgramOf p m.code m.inputs
  pub state : RestFits rest m
  pub even : AreEven m.procedures.items m.memory
  pub whole : HaveDepths 0 m.memory.copies
  pub order : CompletesInOrder (nesting_of m.memory) completion (entry ∷ reverse m.stack.items)

-- the step of a completion at that entry
abbrev pub KeepsEntry : StackEntry → Completion → Machine → Machine → Type 0
KeepsEntry entry completion old new = (tree : ℕ → Body) (p : Program) (rest : State) → IsCodeOf (code_in old) p tree → EntryFits p rest entry completion old → RunKept tree p (config (Unwind (completion_of old.code.instrs.items old.memory.copies completion)) (entry_of old.code.instrs.items old.memory.copies entry ∷ stack_in old) (state_in rest old)) [] rest.written old new

-- the line about a fault is written, and ERROR is raised; no level was passed
abbrev pub KeepsComplaint : Option LineFault → Machine → Machine → Type 0
KeepsComplaint fault old new = (tree : ℕ → Body) (p : Program) (rest : State) → IsCodeOf (code_in old) p tree → FitsIn p rest (mode.Unwind completion.Normal) old → RunKept tree p (errs_step (complained p (complaint_if fault) (state_in rest old)) (Completes (state.Raises nothing_passed)) (stack_in old)) [] rest.written old new

-- with n levels open: Leave of the innermost level, Back to an open one, or an operation that names no level
abbrev pub IsOfOpenLevels : ℕ → NextStep → Type 0
IsOfOpenLevels n (next_step.Ask (op.Leave keep)) = 0 < n
IsOfOpenLevels n (next_step.Ask (op.Back depth)) = (0 < depth) × (depth ≤ n)
IsOfOpenLevels n (next_step.Ask other) = Unit {0}
IsOfOpenLevels n (next_step.Ended end) = ⊥

-- it asks so, with the levels that are open
abbrev pub AsksOpenLevels : NextStep → Machine → Type 0
AsksOpenLevels wants m = (p : Program) (rest : State) → Fits p rest m → IsOfOpenLevels (length m.memory.copies) wants

-- it awaits an answer
abbrev pub IsAwaiting : Mode → Type 0
IsAwaiting (mode.Execute t) = ⊥
IsAwaiting (mode.Unwind w) = ⊥
IsAwaiting (mode.Await o k) = Unit {0}

-- it unwinds
abbrev pub IsOver : Mode → Type 0
IsOver (mode.Execute t) = ⊥
IsOver (mode.Unwind w) = Unit {0}
IsOver (mode.Await o k) = ⊥

-- and the stack is empty
abbrev pub IsAtEnd : Machine → Type 0
IsAtEnd m = IsOver m.mode × (m.stack.items ≡ [])

-- What a part of a step keeps, and what instructions have.
use Rattle.std.specs.Prelude.{ℕ, Bool, true, false, []}
use Rattle.abl_base.specs.declared.value.Value.TheVariants.{Unknown}
use Rattle.bound_tree.specs.Tree.{Body, Expr, Literal}
use Rattle.block_meaning.specs.Program.{Program}
use Rattle.block_meaning.specs.State.{State}
use Rattle.flat_machine.specs.Flat as flat
use Rattle.client_machine.specs.declared.machine.Machine.{Machine}
use Rattle.client_machine.specs.declared.mode.Mode.{Mode}
use Rattle.client_machine.specs.declared.mode.Mode.TheVariants as mode
use Rattle.client_machine.specs.declared.mode.Completion.TheVariants as completion
use Rattle.client_machine.specs.Machine.{state_in}
pub use Rattle.client_machine.specs.Statements.{pairs_in}
use Rattle.client_machine.specs.Step.{code_in, FitsIn, RunKept}

-- the machine keeps the rest of the run from a configuration that is a function of the program and the state; no level
-- is passed there
abbrev pub KeepsFrom : (Program → State → flat.Config) → Machine → Machine → Type 0
KeepsFrom from old new = (tree : ℕ → Body) (p : Program) (rest : State) → flat.IsCodeOf (code_in old) p tree → FitsIn p rest (mode.Unwind completion.Normal) old → RunKept tree p (from p (state_in rest old)) [] rest.written old new

-- the test of an IF
abbrev pub test_in : flat.Instr → Expr
test_in (flat.Tests e one other) = e
test_in i = Literal Unknown

-- the place of the branch that is chosen
abbrev pub place_if : Bool → ℕ → ℕ → ℕ
place_if true one other = one
place_if false one other = other

-- ERROR-STATUS:ERROR as a statement with NO-ERROR begins
abbrev pub status_if : Bool → Bool → Bool
status_if true status = false
status_if false status = status

-- one of two modes
abbrev pub mode_if : Bool → Mode → Mode → Mode
mode_if true one other = one
mode_if false one other = other

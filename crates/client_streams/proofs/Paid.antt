-- A statement that costs a unit.
use Rattle.std.proofs.Common.{◌≡◌, ℕ, List, ◌∷◌, Bool, ap}
use Rattle.bound_tree.specs.Tree.{Stmt}
use Rattle.database_protocol.specs.declared.ends.StopWhy.TheVariants as why
use Rattle.block_meaning.specs.Program.{Program}
use Rattle.block_meaning.specs.State.{State}
use Rattle.flat_machine.specs.Flat as flat
use Rattle.client_machine.specs.declared.machine.Machine.{Machine}
use Rattle.client_machine.specs.declared.mode.Mode.TheVariants as mode
use Rattle.client_machine.specs.declared.mode.Completion.TheVariants as completion
use Rattle.client_machine.specs.declared.mode.Task.TheVariants as task
use Rattle.client_machine.specs.Config.{instr_at}
use Rattle.client_machine.specs.KeepsFrom.{KeepsFrom}
use Rattle.client_machine.specs.Machine.{config_of, stack_in, state_in}
use Rattle.client_machine.specs.Step.{code_in, KeepsTask}
use Rattle.client_machine.proofs.PaidSteps as steps

-- what follows the unit
abbrev pub go_of : Stmt → ℕ → ℕ → Bool → Program → List flat.StackEntry → State → flat.Config
go_of t next left retry p ks s = flat.stmt_step p t left retry (flat.ThenDo (flat.RunsFrom next left retry) ∷ ks) s

-- the statement at the place costs a unit
costs : (old : Machine) (place next left : ℕ) (retry : Bool) (t : Stmt) → instr_at old.code.instrs.items place ≡ flat.Plain t next → (p : Program) (rest : State) →
    flat.task_step (code_in old) p (flat.RunsFrom place left retry) (stack_in old) (state_in rest old) ≡ flat.costing old.units (go_of t next left retry p (stack_in old)) (stack_in old) (state_in rest old)
costs old place next left retry t at p rest = ap (λ i. flat.instr_step p i left retry (stack_in old) (state_in rest old)) at

-- the unit was charged
pub paid_kept : (old m new : Machine) (place next left : ℕ) (retry : Bool) (t : Stmt) → instr_at old.code.instrs.items place ≡ flat.Plain t next →
    (let x : Machine = record old { units = m.units } in m ≡ x) →
    ((rest : State) (ks : List flat.StackEntry) (go : State → flat.Config) → flat.costing old.units go ks (state_in rest old) ≡ go (state_in rest m)) →
    KeepsFrom (λ p s. flat.stmt_step p t left retry (flat.ThenDo (flat.RunsFrom next left retry) ∷ stack_in m) s) m new →
    KeepsTask (task.RunsFrom place left retry) old new
paid_kept old m new place next left retry t at e paid keeps =
    steps.paid_kept (task.RunsFrom place left retry) old m new (go_of t next left retry) (costs old place next left retry t at) (λ o. o) e paid keeps

-- no unit is left
pub unpaid_kept : (old new : Machine) (place next left : ℕ) (retry : Bool) (t : Stmt) → instr_at old.code.instrs.items place ≡ flat.Plain t next →
    (let x : Machine = record old { mode = mode.Unwind (completion.Stops why.Budget) } in new ≡ x) →
    ((rest : State) (go : State → flat.Config) → config_of rest new ≡ flat.costing old.units go (stack_in old) (state_in rest old)) →
    KeepsTask (task.RunsFrom place left retry) old new
unpaid_kept old new place next left retry t at e stops =
    steps.unpaid_kept (task.RunsFrom place left retry) old new (go_of t next left retry) (costs old place next left retry t at) (λ o. tt) e stops

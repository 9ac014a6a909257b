-- A task that costs a unit, and the parts of its step.
use Rattle.std.proofs.Common.{◌≡◌, ℕ, List, [], Bool, true, false, None, refl, sym, ap, ◌∙◌, subst}
use Rattle.std.specs.Prelude.{reverse}
use Rattle.database_protocol.specs.declared.ends.StopWhy.TheVariants as why
use Rattle.block_meaning.specs.Program.{Program}
use Rattle.block_meaning.specs.State.{State}
use Rattle.block_meaning.specs.Meaning.{cleared}
use Rattle.flat_machine.specs.Flat as flat
use Rattle.flat_machine.specs.Flat.{IsCodeOf}
use Rattle.flat_machine.proofs.Machine.{step_means}
use Rattle.client_machine.specs.declared.machine.Machine.{Machine}
use Rattle.client_machine.specs.declared.mode.Mode.TheVariants as mode
use Rattle.client_machine.specs.declared.mode.Completion.TheVariants as completion
use Rattle.client_machine.specs.declared.mode.Task.{Task}
use Rattle.client_machine.specs.Config.{task_of}
use Rattle.client_machine.specs.Machine.{config_of, stack_in, state_in}
use Rattle.client_machine.specs.Order.{nesting_of, Named, ModeInOrder, TaskInOrder}
use Rattle.client_machine.specs.Step.{code_in, FitsIn, RunKept, KeepsTask}
use Rattle.client_machine.specs.KeepsFrom.{KeepsFrom, status_if}
use Rattle.client_machine.proofs.RunKept.{task_kept}

-- ---- a unit was charged

paid_to : (task : Task) (old new : Machine) (u : ℕ) (go : Program → List flat.StackEntry → State → flat.Config) →
    ((p : Program) (rest : State) → flat.task_step (code_in old) p (task_of old.code.instrs.items old.memory.copies task) (stack_in old) (state_in rest old) ≡ flat.costing old.units (go p (stack_in old)) (stack_in old) (state_in rest old)) →
    (TaskInOrder (nesting_of old.memory) task (reverse old.stack.items) → Named (nesting_of old.memory) None (reverse old.stack.items)) →
    (let m : Machine = record old { units = u } in (rest : State) (ks : List flat.StackEntry) (go : State → flat.Config) → flat.costing old.units go ks (state_in rest old) ≡ go (state_in rest m)) →
    (let m : Machine = record old { units = u } in KeepsFrom (λ p s. go p (stack_in m) s) m new) →
    KeepsTask task old new
paid_to task old new u go steps order paid keeps = λ tree p rest is f.
    let k = keeps tree p rest is (record { program = f.program; state = f.state; even = f.even; whole = f.whole; order = order f.order }) in
    record {
      rest = k.rest;
      code = k.code;
      fits = k.fits;
      more = k.more;
      has = k.has;
      same = λ ans. step_means (code_in old) tree p is (flat.config (flat.Execute (task_of old.code.instrs.items old.memory.copies task)) (stack_in old) (state_in rest old)) ans
          ∙ ap (λ c. flat.means tree p c ans) (steps p rest ∙ paid rest (stack_in old) (go p (stack_in old)))
          ∙ k.same ans;
    }

pub paid_kept : (task : Task) (old m new : Machine) (go : Program → List flat.StackEntry → State → flat.Config) →
    ((p : Program) (rest : State) → flat.task_step (code_in old) p (task_of old.code.instrs.items old.memory.copies task) (stack_in old) (state_in rest old) ≡ flat.costing old.units (go p (stack_in old)) (stack_in old) (state_in rest old)) →
    (TaskInOrder (nesting_of old.memory) task (reverse old.stack.items) → Named (nesting_of old.memory) None (reverse old.stack.items)) →
    (let x : Machine = record old { units = m.units } in m ≡ x) →
    ((rest : State) (ks : List flat.StackEntry) (go : State → flat.Config) → flat.costing old.units go ks (state_in rest old) ≡ go (state_in rest m)) →
    KeepsFrom (λ p s. go p (stack_in m) s) m new →
    KeepsTask task old new
paid_kept task old m new go steps order e paid keeps =
    paid_to task old new m.units go steps order
    (subst (λ (y : Machine). (rest : State) (ks : List flat.StackEntry) (go : State → flat.Config) → flat.costing old.units go ks (state_in rest old) ≡ go (state_in rest y)) e paid)
    (subst (λ (y : Machine). KeepsFrom (λ p s. go p (stack_in y) s) y new) e keeps)

-- no unit is left
pub unpaid_kept : (task : Task) (old new : Machine) (go : Program → List flat.StackEntry → State → flat.Config) →
    ((p : Program) (rest : State) → flat.task_step (code_in old) p (task_of old.code.instrs.items old.memory.copies task) (stack_in old) (state_in rest old) ≡ flat.costing old.units (go p (stack_in old)) (stack_in old) (state_in rest old)) →
    (TaskInOrder (nesting_of old.memory) task (reverse old.stack.items) → ModeInOrder (nesting_of old.memory) (mode.Unwind (completion.Stops why.Budget)) (reverse old.stack.items)) →
    (let x : Machine = record old { mode = mode.Unwind (completion.Stops why.Budget) } in new ≡ x) →
    ((rest : State) (go : State → flat.Config) → config_of rest new ≡ flat.costing old.units go (stack_in old) (state_in rest old)) →
    KeepsTask task old new
unpaid_kept task old new go steps order e stops =
    let x : Machine = record old { mode = mode.Unwind (completion.Stops why.Budget) } in
    let to = subst (λ (y : Machine). (rest : State) (go : State → flat.Config) → config_of rest y ≡ flat.costing old.units go (stack_in old) (state_in rest old)) e stops in
    subst (KeepsTask task old) (sym e) (task_kept task old x refl order (λ tree p rest f. to rest (go p (stack_in old)) ∙ sym (steps p rest)))

-- ---- ERROR-STATUS is cleared

cleared_in : (quiet : Bool) (rest : State) (old : Machine) → state_in (cleared quiet rest) old ≡ cleared quiet (state_in rest old)
cleared_in true rest old = refl
cleared_in false rest old = refl

cleared_fits : (quiet : Bool) (p : Program) (rest : State) (old : Machine) → FitsIn p rest (mode.Unwind completion.Normal) old →
    (let m : Machine = record old { status = status_if quiet old.status } in FitsIn p (cleared quiet rest) (mode.Unwind completion.Normal) m)
cleared_fits true p rest old f = record {
  program = f.program;
  state = record { made_is = f.state.made_is; status_is = refl; returned_is = f.state.returned_is; size_is = f.state.size_is; streams_are = f.state.streams_are; at_is = f.state.at_is };
  even = f.even;
  whole = f.whole;
  order = f.order;
}
cleared_fits false p rest old f = record { program = f.program; state = f.state; even = f.even; whole = f.whole; order = f.order }

cleared_written : (quiet : Bool) (rest : State) → (cleared quiet rest).written ≡ rest.written
cleared_written true rest = refl
cleared_written false rest = refl

cleared_to : (quiet : Bool) (from : Program → State → flat.Config) (old new : Machine) →
    (let m : Machine = record old { status = status_if quiet old.status } in KeepsFrom from m new) → KeepsFrom (λ p s. from p (cleared quiet s)) old new
cleared_to quiet from old new keeps = λ tree p rest is f.
    let k = keeps tree p (cleared quiet rest) is (cleared_fits quiet p rest old f) in
    subst (λ pieces. RunKept tree p (from p (cleared quiet (state_in rest old))) [] pieces old new) (cleared_written quiet rest)
    (record {
      rest = k.rest;
      code = k.code;
      fits = k.fits;
      more = k.more;
      has = k.has;
      same = λ ans. ap (λ s. flat.means tree p (from p s) ans) (sym (cleared_in quiet rest old)) ∙ k.same ans;
    })

pub cleared_kept : (quiet : Bool) (from : Program → State → flat.Config) (old m new : Machine) → (let x : Machine = record old { status = status_if quiet old.status } in m ≡ x) →
    KeepsFrom from m new → KeepsFrom (λ p s. from p (cleared quiet s)) old new
cleared_kept quiet from old m new e keeps = cleared_to quiet from old new (subst (λ (y : Machine). KeepsFrom from y new) e keeps)

-- ---- two configurations that are the same

pub from_same : (from from' : Program → State → flat.Config) (old new : Machine) → ((p : Program) (rest : State) → from p (state_in rest old) ≡ from' p (state_in rest old)) → KeepsFrom from' old new → KeepsFrom from old new
from_same from from' old new same keeps = λ tree p rest is f.
    let k = keeps tree p rest is f in
    record {
      rest = k.rest;
      code = k.code;
      fits = k.fits;
      more = k.more;
      has = k.has;
      same = λ ans. ap (λ c. flat.means tree p c ans) (same p rest) ∙ k.same ans;
    }

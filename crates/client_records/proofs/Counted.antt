-- CREATE counts its record.
use Rattle.std.proofs.Common.{◌≡◌, ℕ, ◌+◌, List, [], sym, ap, ◌∙◌, subst}
use Rattle.std.specs.Prelude.{reverse}
use Rattle.block_meaning.specs.Changes.{begun, initial_values}
use Rattle.block_meaning.specs.Frames.{holding, table_of}
use Rattle.block_meaning.specs.Program.{Program, table_at}
use Rattle.block_meaning.specs.State as state
use Rattle.block_meaning.specs.State.{State, Copy, Pending}
use Rattle.block_meaning.proofs.Continues.{begins_itself}
use Rattle.flat_machine.specs.Flat as flat
use Rattle.flat_machine.proofs.Machine.{step_means}
use Rattle.buffer_steps.specs.changes.Buffers.{HasTables}
use Rattle.client_output.proofs.Unchanged.{written_same}
use Rattle.client_machine.specs.declared.machine.Machine.{Machine}
use Rattle.client_machine.specs.declared.mode.Mode.TheVariants as mode
use Rattle.client_machine.specs.declared.mode.Completion.TheVariants as completion
use Rattle.client_machine.specs.declared.mode.Task.TheVariants as task
use Rattle.client_machine.specs.declared.mode.changes.ChangeTask.TheVariants as change_task
use Rattle.client_machine.specs.Config.{stack_of}
use Rattle.client_machine.specs.Inputs.{names_of}
use Rattle.client_machine.specs.Machine.{config_of, stack_in, state_in}
use Rattle.client_machine.specs.Order.{HaveDepths, InOrder}
use Rattle.client_machine.specs.Step.{FitsIn, KeepsTask, code_in}
use Rattle.client_records.specs.Reads.{ReadsOf}
use Rattle.client_records.proofs.Kept.{same_nesting}

pub begun_kept : (b : ℕ) (old mid new : Machine) (made : ℕ) → (let m : Machine = record old { memory = mid.memory } in mid ≡ m) → (let m : Machine = record mid { made = made; mode = mode.Unwind completion.Normal } in new ≡ m) → made ≡ old.made + 1 →
    mid.memory.copies ≡ old.memory.copies →
    ((p : Program) (rest : State) → ReadsOf p rest old → ReadsOf p rest mid) →
    ((p : Program) (rest : State) → HasTables p old.inputs.schema → ReadsOf p rest old → state_in rest mid ≡ holding b (Pending (initial_values (table_at p (table_of b (state_in rest old))).fields) [] made) (state_in rest old)) →
    KeepsTask (task.Change (change_task.Begun b)) old new
begun_kept b old mid new made moved to counted copies reads state_is = λ tree p rest is f.
    let mem = mid.memory in
    let n : Machine = record old { mode = mode.Unwind completion.Normal; memory = mem; made = made } in
    let new_is : new ≡ n = to ∙ ap (λ (m : Machine). record m { made = made; mode = mode.Unwind completion.Normal }) moved in
    let rest' : State = record rest { made = rest.made + 1 } in
    let r : ReadsOf p rest old = record { forms = f.program.forms; even = f.even; status_is = f.state.status_is; returned_is = f.state.returned_is } in
    let q = subst (λ (m : Machine). ReadsOf p rest m) moved (reads p rest r) in
    let s = state_in rest old in
    let values = initial_values (table_at p (table_of b s)).fields in
    let number : rest.made + 1 ≡ made = ap (λ (k : ℕ). k + 1) f.state.made_is ∙ sym counted in
    let after : begun p b s ≡ state_in rest' n =
    ap (λ (k : ℕ). let x : State = holding b (Pending values [] k) s in record x { made = rest.made + 1 }) number
    ∙ ap (λ (x : State). record x { made = rest.made + 1 }) (sym (state_is p rest f.program.tables r))
    ∙ ap (λ (m : Machine). let x : State = state_in rest m in record x { made = rest.made + 1 }) moved in
    record {
      rest = rest';
      code = ap (λ (m : Machine). m.code) new_is;
      fits = subst (λ (m : Machine). FitsIn p rest' m.mode m) (sym new_is) (record {
        program = f.program;
        state = record { made_is = number; status_is = f.state.status_is; returned_is = f.state.returned_is; size_is = f.state.size_is; streams_are = f.state.streams_are; at_is = f.state.at_is };
        even = q.even;
        whole = subst (λ (cs : List Copy). HaveDepths 0 cs) (sym copies) f.whole;
        order = (tt, subst (λ x. InOrder x (reverse old.stack.items)) (sym (same_nesting old.memory mem (sym q.even.0 ∙ f.even.0) copies)) f.order.1);
      });
      more = begins_itself rest.written;
      has = λ has. written_same old.output new.output (names_of old.code) rest.written (ap (λ (m : Machine). m.output) new_is) has;
      same = λ ans.
          step_means (code_in old) tree p is (flat.config (flat.Execute (flat.Begun b)) (stack_in old) s) ans
          ∙ ap (λ (x : State). flat.means tree p (flat.config (flat.Unwind state.Normal) (stack_in old) x) ans) after
          ∙ ap (λ (cs : List Copy). flat.means tree p (flat.config (flat.Unwind state.Normal) (stack_of old.code.instrs.items cs (reverse old.stack.items)) (state_in rest' n)) ans) (sym copies)
          ∙ ap (λ (m : Machine). flat.means tree p (config_of rest' m) ans) (sym new_is);
    }

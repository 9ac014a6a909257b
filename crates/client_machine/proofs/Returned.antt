-- A step that sets RETURN-VALUE, and what follows an UNDO.
use Rattle.std.proofs.Common.{◌≡◌, ℕ, List, [], ◌∷◌, Option, None, Bool, true, false, refl, sym, ap, ◌∙◌, subst}
use Rattle.std.specs.Prelude.{◌==◌, reverse}
use Rattle.database_protocol.specs.declared.answer.Answer.{Answer}
use Rattle.bound_tree.specs.Tree.{Body, Header, Action, ThenRetry, ThenLeave, ThenNext, ThenReturn, ThenError}
use Rattle.block_meaning.specs.Program.{Program}
use Rattle.block_meaning.specs.State.{State, Copy, Passed, Continuation, Completion, Normal, Again, Leaves, Nexts, Undoes, Faults, Raises, EndKeys, Returns, Stops, Found, Lost, NotFound, Done, if_else, completes, and_then}
use Rattle.block_meaning.specs.Buffers.{releases_all}
use Rattle.block_meaning.specs.Blocks.{Iteration, after_iteration, acts, closes, instead_of_retry, iterates, next_turn, returns_with, passed_with, goes_back, undone, passes}
use Rattle.block_meaning.proofs.Continues.{begins_itself}
use Rattle.flat_machine.specs.Flat as flat
use Rattle.flat_machine.specs.Flat.{IsCodeOf, means, config, after_stack}
use Rattle.flat_machine.proofs.Machine.{step_means}
use Rattle.client_output.proofs.Unchanged.{written_same}
use Rattle.client_machine.specs.declared.machine.Machine.{Machine}
use Rattle.client_machine.specs.declared.mode.Task.{Task}
use Rattle.client_machine.specs.declared.mode.Task.TheVariants as task
use Rattle.client_machine.specs.declared.mode.Mode.{Mode}
use Rattle.client_machine.specs.declared.mode.Mode.TheVariants as mode
use Rattle.client_machine.specs.declared.mode.StackEntry.{StackEntry}
use Rattle.evaluator.specs.Forms.{AreForms}
use Rattle.block_code.specs.declared.code.Instr.{Instr}
use Rattle.client_machine.specs.declared.mode.AfterUndo.{AfterUndo}
use Rattle.client_machine.specs.declared.mode.TurnData.{TurnData}
use Rattle.client_machine.specs.declared.mode.Completion.{Completion as MyCompletion}
use Rattle.client_machine.specs.Undone.{after_action}
use Rattle.client_machine.specs.Config.{task_of, mode_of, instr_at, header_at, turn_of, iteration_without, after_undo_of, completion_of, AreEven}
use Rattle.client_machine.specs.Inputs.{IsProgramOf, names_of}
use Rattle.client_machine.specs.Machine.{config_of, stack_in, state_in}
use Rattle.client_machine.specs.Order.{Nesting, nesting_of, HaveDepths, InOrder, ModeInOrder, TaskInOrder, first_in}
use Rattle.client_machine.proofs.Orders.{completes_order}
use Rattle.client_machine.specs.Step.{code_in, RestFits, FitsIn, KeepsTask}

-- the fields that change
abbrev pub returned_to : Machine → Machine → Machine
returned_to old new = record old { mode = new.mode; stack = new.stack; units = new.units; returned = new.returned }

-- the rest of the state, with another RETURN-VALUE
abbrev pub rest_with : State → List ℕ → State
rest_with rest text = record rest { returned = text }

pub task_kept_returned : (task : Task) (old new : Machine) → new ≡ returned_to old new →
    (TaskInOrder (nesting_of old.memory) task (reverse old.stack.items) → ModeInOrder (nesting_of old.memory) new.mode (reverse new.stack.items)) →
    ((tree : ℕ → Body) (p : Program) (rest : State) → IsCodeOf (code_in old) p tree → FitsIn p rest (mode.Execute task) old → (ans : List Answer) → means tree p (config (flat.Execute (task_of old.code.instrs.items old.memory.copies task)) (stack_in old) (state_in rest old)) ans ≡ means tree p (config_of (rest_with rest new.returned) new) ans) →
    KeepsTask task old new
task_kept_returned task old new moved order means_same = λ tree p rest is f.
    record {
      rest = rest_with rest new.returned;
      code = ap (λ (m : Machine). m.code) moved;
      fits = record {
        program = subst (λ (m : Machine). IsProgramOf p m.code m.inputs) (sym moved) f.program;
        state = subst (λ (m : Machine). RestFits (rest_with rest new.returned) m) (sym moved)
            (record { made_is = f.state.made_is; status_is = f.state.status_is; returned_is = refl; size_is = f.state.size_is; streams_are = f.state.streams_are; at_is = f.state.at_is });
        even = subst (λ (m : Machine). AreEven m.procedures.items m.memory) (sym moved) f.even;
        whole = subst (λ (m : Machine). HaveDepths 0 m.memory.copies) (sym moved) f.whole;
        order = subst (λ (m : Machine). ModeInOrder (nesting_of m.memory) new.mode (reverse new.stack.items)) (sym moved) (order f.order);
      };
      more = begins_itself rest.written;
      has = λ has. written_same old.output new.output (names_of old.code) rest.written (ap (λ (m : Machine). m.output) moved) has;
      same = means_same tree p rest is f;
    }

-- a statement that sets RETURN-VALUE
pub runs_returned : (old new : Machine) (place left : ℕ) (retry : Bool) (i : flat.Instr) → instr_at old.code.instrs.items place ≡ i → new ≡ returned_to old new →
    ((n : Nesting) → InOrder n (reverse old.stack.items) → ModeInOrder n new.mode (reverse new.stack.items)) →
    ((p : Program) (rest : State) → FitsIn p rest (mode.Execute (task.RunsFrom place left retry)) old → config_of (rest_with rest new.returned) new ≡ flat.instr_step p i left retry (stack_in old) (state_in rest old)) →
    KeepsTask (task.RunsFrom place left retry) old new
runs_returned old new place left retry i e moved order steps =
    task_kept_returned (task.RunsFrom place left retry) old new moved (λ o. order (nesting_of old.memory) o.1)
    (λ tree p rest is f ans.
    step_means (code_in old) tree p is (config (flat.Execute (flat.RunsFrom place left retry)) (stack_in old) (state_in rest old)) ans
    ∙ ap (λ c. means tree p c ans) (ap (λ x. flat.instr_step p x left retry (stack_in old) (state_in rest old)) e ∙ sym (steps p rest f)))

-- ---- an iteration whose level is left

abbrev pub without_copy : Iteration → Iteration
without_copy o = record { copy = None; turn = o.turn }

after_same : (b : Header) (o : Iteration) (w : Completion) → after_iteration b o w ≡ after_iteration b (without_copy o) w
after_same b o Normal = refl
after_same b o (Again t) = refl
after_same b o (Leaves l) = refl
after_same b o (Nexts l) = refl
after_same b o (Undoes l a r x) = refl
after_same b o (Faults c) = refl
after_same b o (Raises x) = refl
after_same b o (EndKeys x) = refl
after_same b o (Found c) = refl
after_same b o Lost = refl
after_same b o NotFound = refl
after_same b o (Returns e) = refl
after_same b o (Stops e) = refl

closes_same : (p : Program) (b : Header) (o : Iteration) (w : Completion) (s : State) (ans : List Answer) → closes p b o w s ans ≡ closes p b (without_copy o) w s ans
closes_same p b o w s ans = ap (λ x. and_then (releases_all p b.scoped s ans) (completes x)) (after_same b o w)

retry_same : (x : Bool) (p : Program) (b : Header) (o : Iteration) (w : Completion) (s : State) (ans : List Answer) → if_else x (completes (Again (next_turn true o.turn))) (closes p b o w) s ans ≡ if_else x (completes (Again (next_turn true o.turn))) (closes p b (without_copy o) w) s ans
retry_same true p b o w s ans = refl
retry_same false p b o w s ans = closes_same p b o w s ans

pub acts_same : (p : Program) (b : Header) (o : Iteration) (act : Action) (retry : Bool) (s : State) (ans : List Answer) → acts p b o act retry s ans ≡ acts p b (without_copy o) act retry s ans
acts_same p b o ThenRetry retry s ans = retry_same b.flags.retry_seen p b o (instead_of_retry (iterates b) b.number) s ans
acts_same p b o (ThenLeave l) retry s ans = closes_same p b o (Leaves l) s ans
acts_same p b o (ThenNext l) retry s ans = closes_same p b o (Nexts l) s ans
acts_same p b o (ThenReturn error e) retry s ans = closes_same p b o (Returns error) (returns_with p e retry s) ans
acts_same p b o ThenError retry s ans = closes_same p b o (Returns true) s ans

-- the block of an UNDO is reached
pub undo_reaches : (tree : ℕ → Body) (p : Program) (b : Header) (o : Iteration) (target : ℕ) (act : Action) (retry : Bool) (passed next : Passed) (ks : List flat.StackEntry) (s : State) (ans : List Answer) →
    (target == b.number) ≡ true → passed_with b o passed ≡ next →
    means tree p (config (flat.Execute (flat.UndoComes b o target act retry passed)) ks s) ans ≡ means tree p (config (flat.Execute (flat.GoesBack next.first next.buffers)) (flat.ThenDo (flat.Acts b (without_copy o) act retry) ∷ ks) s) ans
undo_reaches tree p b o target act retry passed next ks s ans e is =
    ap (λ x. after_stack tree p ks (if_else x (undone p b o act retry (passed_with b o passed)) (passes p b (Undoes target act retry passed) (Undoes target act retry (passed_with b o passed))) s ans)) e
    ∙ ap (λ (x : Passed). after_stack tree p ks (and_then (goes_back x.first x.buffers s ans) (acts p b o act retry))) is
    ∙ ap (λ (g : Continuation). after_stack tree p ks (and_then (goes_back next.first next.buffers s ans) g)) (λ i s ans. acts_same p b o act retry s ans i)

-- ---- the action after an UNDO

-- the completion, and the state, after an action
abbrev pub ActsAs : List Instr → ℕ → TurnData → AfterUndo → MyCompletion → Type 0
ActsAs code place turn a w = (cs : List Copy) (p : Program) (copy : Option Copy) (retry : Bool) (s : State) (ans : List Answer) → (header_at code place).scoped ≡ [] →
    acts p (header_at code place) (record { copy = copy; turn = turn_of turn }) (after_undo_of code a) retry s ans ≡ Done (completion_of code cs w) (after_action p (after_undo_of code a) retry s) ans

pub act_keeps : (old mid : Machine) (place : ℕ) (turn : TurnData) (a : AfterUndo) (retry : Bool) (w : MyCompletion) → (let m : Machine = record old { returned = mid.returned } in mid ≡ m) →
    (AreEven old.procedures.items old.memory → (rest : State) (p : Program) → AreForms p.forms → rest.status ≡ old.status → rest.returned ≡ old.returned → after_action p (after_undo_of old.code.instrs.items a) retry (state_in rest old) ≡ state_in (rest_with rest mid.returned) old) →
    ActsAs mid.code.instrs.items place turn a w → first_in w ≡ None → (header_at old.code.instrs.items place).scoped ≡ [] →
    (let m : Machine = record mid { mode = mode.Unwind w } in KeepsTask (task.Acts place turn a retry) old m)
act_keeps old mid place turn a retry w moved text same plain none =
    let t = task.Acts place turn a retry in
    let code = old.code.instrs.items in
    let cs = old.memory.copies in
    let new : Machine = record old { returned = mid.returned; mode = mode.Unwind w } in
    let same' : ActsAs code place turn a w = subst (λ (m : Machine). ActsAs m.code.instrs.items place turn a w) moved same in
    subst (λ (m : Machine). KeepsTask t old (record m { mode = mode.Unwind w })) (sym moved)
    (task_kept_returned t old new refl (λ o. completes_order (nesting_of old.memory) w (reverse old.stack.items) plain o.1)
    (λ tree p rest is f ans.
    ap (after_stack tree p (stack_in old)) (same' cs p None retry (state_in rest old) ans none)
    ∙ ap (λ s. after_stack tree p (stack_in old) (Done (completion_of code cs w) s ans)) (text f.even rest p f.program.forms f.state.status_is f.state.returned_is)))

-- the same where buffers are released then
pub act_closes : (old mid : Machine) (place : ℕ) (turn : TurnData) (a : AfterUndo) (retry : Bool) (x : Mode) → (let m : Machine = record old { returned = mid.returned } in mid ≡ m) →
    (AreEven old.procedures.items old.memory → (rest : State) (p : Program) → AreForms p.forms → rest.status ≡ old.status → rest.returned ≡ old.returned → after_action p (after_undo_of old.code.instrs.items a) retry (state_in rest old) ≡ state_in (rest_with rest mid.returned) old) →
    ((cs : List Copy) (p : Program) (retry : Bool) (ks : List flat.StackEntry) (s : State) → config (mode_of mid.code.instrs.items cs x) ks (after_action p (after_undo_of mid.code.instrs.items a) retry s) ≡ flat.act_step p (after_undo_of mid.code.instrs.items a) (header_at mid.code.instrs.items place) (iteration_without turn) retry ks s) →
    ((n : Nesting) (ks : List StackEntry) → InOrder n ks → ModeInOrder n x ks) →
    (let m : Machine = record mid { mode = x } in KeepsTask (task.Acts place turn a retry) old m)
act_closes old mid place turn a retry x moved text same order =
    let t = task.Acts place turn a retry in
    let code = old.code.instrs.items in
    let cs = old.memory.copies in
    let new : Machine = record old { returned = mid.returned; mode = x } in
    let same' : (cs : List Copy) (p : Program) (retry : Bool) (ks : List flat.StackEntry) (s : State) → config (mode_of code cs x) ks (after_action p (after_undo_of code a) retry s) ≡ flat.act_step p (after_undo_of code a) (header_at code place) (iteration_without turn) retry ks s =
    subst (λ (m : Machine). (cs : List Copy) (p : Program) (retry : Bool) (ks : List flat.StackEntry) (s : State) → config (mode_of m.code.instrs.items cs x) ks (after_action p (after_undo_of m.code.instrs.items a) retry s) ≡ flat.act_step p (after_undo_of m.code.instrs.items a) (header_at m.code.instrs.items place) (iteration_without turn) retry ks s) moved same in
    subst (λ (m : Machine). KeepsTask t old (record m { mode = x })) (sym moved)
    (task_kept_returned t old new refl (λ o. order (nesting_of old.memory) (reverse old.stack.items) o.1)
    (λ tree p rest is f ans.
    step_means (code_in old) tree p is (config (flat.Execute (task_of code cs t)) (stack_in old) (state_in rest old)) ans
    ∙ ap (λ c. means tree p c ans) (sym (same' cs p retry (stack_in old) (state_in rest old)))
    ∙ ap (λ s. means tree p (config (mode_of code cs x) (stack_in old) s) ans) (text f.even rest p f.program.forms f.state.status_is f.state.returned_is)))

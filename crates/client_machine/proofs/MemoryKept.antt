-- Parts of a step that change variables.
use Rattle.std.proofs.Common.{◌≡◌, ℕ, List, ◌∷◌, [], ◌++◌, Bool, true, false, length, Some, None, refl, sym, ap, ◌∙◌, subst}
use Rattle.std.specs.Prelude.{reverse, Vec}
use Rattle.std.specs.declared.alloc.Global.{Global}
use Rattle.std.proofs.lemmas.List.{reverse-append}
use Rattle.abl_base.specs.declared.value.Value.{Value}
use Rattle.expression_meaning.specs.declared.fault.RunFault.{RunFault}
use Rattle.expression_meaning.specs.Operators.{holds}
use Rattle.bound_tree.specs.Tree.{Body, Assignment}
use Rattle.database_protocol.specs.declared.answer.Answer.{Answer}
use Rattle.block_meaning.specs.Program.{Program}
use Rattle.block_meaning.specs.Lines.{complaint_of}
use Rattle.block_meaning.specs.State as state
use Rattle.block_meaning.specs.State.{State, Copy, Done, nothing_passed}
use Rattle.block_meaning.specs.Changes.{assigns_each, buffers_in}
use Rattle.block_meaning.specs.Values.{Evaluated, Gives, Fails}
use Rattle.block_meaning.specs.Meaning.{handled}
use Rattle.block_meaning.proofs.Continues.{begins_itself}
use Rattle.flat_machine.specs.Flat as flat
use Rattle.flat_machine.specs.Flat.{IsCodeOf}
use Rattle.flat_machine.proofs.Machine.{step_means}
use Rattle.flat_machine.proofs.Fused.{assigns_at_once}
use Rattle.client_memory.specs.Memory.{Remembered}
use Rattle.client_values.specs.Reads.{Reads}
use Rattle.client_values.specs.Variables.{HasSameShape, state_with}
use Rattle.client_values.proofs.Assigned.{same_shape, even_after}
use Rattle.client_machine.specs.declared.machine.Machine.{Machine}
use Rattle.client_machine.specs.declared.mode.Mode.{Mode}
use Rattle.client_machine.specs.declared.mode.Mode.TheVariants as mode
use Rattle.client_machine.specs.declared.mode.Completion.TheVariants as completion
use Rattle.client_machine.specs.declared.mode.LineFault.TheVariants as line_fault
use Rattle.client_machine.specs.declared.mode.Task.TheVariants as task
use Rattle.client_machine.specs.declared.mode.StackEntry.{StackEntry}
use Rattle.client_machine.specs.declared.mode.StackEntry.TheVariants as stack
use Rattle.client_machine.specs.Config.{mode_of, stack_of}
use Rattle.client_machine.specs.Machine.{stack_in, state_in}
use Rattle.client_machine.specs.Order.{nesting_of, Named, ModeInOrder, HaveDepths}
use Rattle.client_machine.proofs.Nestings.{nesting_same}
use Rattle.client_machine.specs.Step.{code_in, FitsIn}
use Rattle.client_machine.specs.KeepsFrom.{KeepsFrom, place_if}

-- the state with other variables
abbrev pub state_now : State → Machine → Remembered → State
state_now rest old mem = state_with (record rest { level = length old.memory.copies; units = old.units }) old.procedures.items mem

-- what a part of a step reads of the state
pub reads_at : (p : Program) (rest : State) (x : Mode) (old : Machine) → FitsIn p rest x old → Reads p (record rest { level = length old.memory.copies; units = old.units }) old.procedures.items old.memory old.status old.returned
reads_at p rest x old f = record { forms = f.program.forms; even = f.even; status_is = f.state.status_is; returned_is = f.state.returned_is }

pub reads_in : (p : Program) (rest : State) (old : Machine) → FitsIn p rest (mode.Unwind completion.Normal) old → Reads p (record rest { level = length old.memory.copies; units = old.units }) old.procedures.items old.memory old.status old.returned
reads_in p rest old f = reads_at p rest (mode.Unwind completion.Normal) old f

pub memory_kept : (from : Program → State → flat.Config) (old : Machine) (m : Mode) (more : Vec StackEntry Global) (mem : Remembered) → HasSameShape old.memory mem →
    (Named (nesting_of old.memory) None (reverse old.stack.items) → ModeInOrder (nesting_of old.memory) m (reverse more.items)) →
    ((tree : ℕ → Body) (p : Program) (rest : State) → IsCodeOf (code_in old) p tree → FitsIn p rest (mode.Unwind completion.Normal) old → (ans : List Answer) → flat.means tree p (from p (state_in rest old)) ans ≡ flat.means tree p (flat.config (mode_of old.code.instrs.items old.memory.copies m) (stack_of old.code.instrs.items old.memory.copies (reverse more.items)) (state_now rest old mem)) ans) →
    (let new : Machine = record old { mode = m; stack = more; memory = mem } in KeepsFrom from old new)
memory_kept from old m more mem shape order same = λ tree p rest is f.
    record {
      rest = rest;
      code = refl;
      fits = record {
        program = f.program;
        state = f.state;
        even = even_after old.procedures.items old.memory mem shape f.even;
        whole = subst (λ (cs : List Copy). HaveDepths 0 cs) (sym shape.copies) f.whole;
        order = subst (λ n. ModeInOrder n m (reverse more.items)) (sym (nesting_same old.memory mem shape.undoable shape.copies)) (order f.order);
      };
      more = begins_itself rest.written;
      has = λ h. h;
      same = λ ans. same tree p rest is f ans
          ∙ ap (λ (cs : List Copy). flat.means tree p (flat.config (mode_of old.code.instrs.items cs m) (stack_of old.code.instrs.items cs (reverse more.items)) (state_with (record rest { level = length cs; units = old.units }) old.procedures.items mem)) ans) (sym shape.copies);
    }

-- ---- a fault

pub pushed_one : (xs ys : List StackEntry) (x : StackEntry) → ys ≡ xs ++ x ∷ [] → reverse ys ≡ x ∷ reverse xs
pushed_one xs ys x e = ap reverse e ∙ reverse-append xs (x ∷ [])

pub pushed_two : (xs ys : List StackEntry) (x y : StackEntry) → ys ≡ (xs ++ x ∷ []) ++ y ∷ [] → reverse ys ≡ y ∷ x ∷ reverse xs
pushed_two xs ys x y e = pushed_one (xs ++ x ∷ []) ys y e ∙ ap (λ zs. y ∷ zs) (reverse-append xs (x ∷ []))

-- ---- IF

branch_is : (b : Bool) (one other d : ℕ) (retry : Bool) (ks : List flat.StackEntry) (s : State) →
    flat.config_if b (flat.config (flat.Execute (flat.RunsFrom one d retry)) ks s) (flat.config (flat.Execute (flat.RunsFrom other d retry)) ks s) ≡ flat.config (flat.Execute (flat.RunsFrom (place_if b one other) d retry)) ks s
branch_is true one other d retry ks s = refl
branch_is false one other d retry ks s = refl

pub chosen_kept : (evaluated : Program → State → Evaluated) (old : Machine) (v : Value) (one other d : ℕ) (retry : Bool) →
    ((p : Program) (rest : State) → FitsIn p rest (mode.Unwind completion.Normal) old → evaluated p (state_in rest old) ≡ Gives v) →
    (let new : Machine = record old { mode = mode.Execute (task.RunsFrom (place_if (holds v) one other) d retry) } in
    KeepsFrom (λ p s. flat.choose_step (evaluated p s) p one other d retry (stack_in old) s) old new)
chosen_kept evaluated old v one other d retry gives =
    memory_kept (λ p s. flat.choose_step (evaluated p s) p one other d retry (stack_in old) s) old (mode.Execute (task.RunsFrom (place_if (holds v) one other) d retry)) old.stack old.memory (same_shape old.memory) (λ o. o)
    (λ tree p rest is f ans. ap (λ c. flat.means tree p c ans)
    (ap (λ e. flat.choose_step e p one other d retry (stack_in old) (state_in rest old)) (gives p rest f) ∙ branch_is (holds v) one other d retry (stack_in old) (state_in rest old)))

pub test_fails : (evaluated : Program → State → Evaluated) (old : Machine) (more : Vec StackEntry Global) (x : RunFault) (one other d : ℕ) (retry : Bool) → more.items ≡ old.stack.items ++ stack.Handles false ∷ [] →
    ((p : Program) (rest : State) → FitsIn p rest (mode.Unwind completion.Normal) old → evaluated p (state_in rest old) ≡ Fails (complaint_of x)) →
    (let new : Machine = record old { mode = mode.Unwind (completion.Faults (Some (line_fault.Expression x))); stack = more } in
    KeepsFrom (λ p s. flat.choose_step (evaluated p s) p one other d retry (stack_in old) s) old new)
test_fails evaluated old more x one other d retry pushed fails =
    let m = mode.Unwind (completion.Faults (Some (line_fault.Expression x))) in
    let top : reverse more.items ≡ stack.Handles false ∷ reverse old.stack.items = pushed_one old.stack.items more.items (stack.Handles false) pushed in
    memory_kept (λ p s. flat.choose_step (evaluated p s) p one other d retry (stack_in old) s) old m more old.memory (same_shape old.memory)
    (λ o. subst (λ ks. ModeInOrder (nesting_of old.memory) m ks) (sym top) o)
    (λ tree p rest is f ans.
    ap (λ c. flat.means tree p c ans) (ap (λ e. flat.choose_step e p one other d retry (stack_in old) (state_in rest old)) (fails p rest f))
    ∙ sym (step_means (code_in old) tree p is (flat.config (flat.Unwind (state.Faults (Some (complaint_of x)))) (flat.Handles false ∷ stack_in old) (state_in rest old)) ans)
    ∙ ap (λ ks. flat.means tree p (flat.config (flat.Unwind (state.Faults (Some (complaint_of x)))) (stack_of old.code.instrs.items old.memory.copies ks) (state_in rest old)) ans) (sym top))

-- ---- assignments

handled_normal : (p : Program) (quiet : Bool) (s : State) (ans : List Answer) → handled p quiet (Done state.Normal s ans) ≡ Done state.Normal s ans
handled_normal p true s ans = refl
handled_normal p false s ans = refl

pub assigned_kept : (xs : List Assignment) (old : Machine) (mem : Remembered) (quiet retry : Bool) (next d : ℕ) → HasSameShape old.memory mem → buffers_in xs ≡ [] →
    ((p : Program) (rest : State) (ns : List ℕ) (ans : List Answer) → Reads p rest ns old.memory old.status old.returned → assigns_each p xs retry (state_with rest ns old.memory) ans ≡ Done state.Normal (state_with rest ns mem) ans) →
    (let new : Machine = record old { mode = mode.Execute (task.RunsFrom next d retry); memory = mem } in
    KeepsFrom (λ p s. flat.config (flat.Execute (flat.Assigns xs retry)) (flat.Handles quiet ∷ flat.ThenDo (flat.RunsFrom next d retry) ∷ stack_in old) s) old new)
assigned_kept xs old mem quiet retry next d shape none assigns =
    memory_kept (λ p s. flat.config (flat.Execute (flat.Assigns xs retry)) (flat.Handles quiet ∷ flat.ThenDo (flat.RunsFrom next d retry) ∷ stack_in old) s) old (mode.Execute (task.RunsFrom next d retry)) old.stack mem shape (λ o. o)
    (λ tree p rest is f ans.
    let ks = flat.Handles quiet ∷ flat.ThenDo (flat.RunsFrom next d retry) ∷ stack_in old in
    assigns_at_once tree p xs retry ks (state_in rest old) ans none
    ∙ ap (flat.after_stack tree p ks) (assigns p (record rest { level = length old.memory.copies; units = old.units }) old.procedures.items ans (reads_in p rest old f))
    ∙ ap (flat.after_stack tree p (flat.ThenDo (flat.RunsFrom next d retry) ∷ stack_in old)) (handled_normal p quiet (state_now rest old mem) ans))

pub assignment_fails : (xs : List Assignment) (old : Machine) (more : Vec StackEntry Global) (mem : Remembered) (x : RunFault) (quiet retry : Bool) (next d : ℕ) → HasSameShape old.memory mem → buffers_in xs ≡ [] →
    more.items ≡ (old.stack.items ++ stack.Then (task.RunsFrom next d retry) ∷ []) ++ stack.Handles quiet ∷ [] →
    ((p : Program) (rest : State) (ns : List ℕ) (ans : List Answer) → Reads p rest ns old.memory old.status old.returned → assigns_each p xs retry (state_with rest ns old.memory) ans ≡ Done (state.Faults (Some (complaint_of x))) (state_with rest ns mem) ans) →
    (let new : Machine = record old { mode = mode.Unwind (completion.Faults (Some (line_fault.Expression x))); stack = more; memory = mem } in
    KeepsFrom (λ p s. flat.config (flat.Execute (flat.Assigns xs retry)) (flat.Handles quiet ∷ flat.ThenDo (flat.RunsFrom next d retry) ∷ stack_in old) s) old new)
assignment_fails xs old more mem x quiet retry next d shape none pushed assigns =
    let m = mode.Unwind (completion.Faults (Some (line_fault.Expression x))) in
    let top : reverse more.items ≡ stack.Handles quiet ∷ stack.Then (task.RunsFrom next d retry) ∷ reverse old.stack.items = pushed_two old.stack.items more.items (stack.Then (task.RunsFrom next d retry)) (stack.Handles quiet) pushed in
    memory_kept (λ p s. flat.config (flat.Execute (flat.Assigns xs retry)) (flat.Handles quiet ∷ flat.ThenDo (flat.RunsFrom next d retry) ∷ stack_in old) s) old m more mem shape
    (λ o. subst (λ ks. ModeInOrder (nesting_of old.memory) m ks) (sym top) (tt, (tt, o.1)))
    (λ tree p rest is f ans.
    let ks = flat.Handles quiet ∷ flat.ThenDo (flat.RunsFrom next d retry) ∷ stack_in old in
    assigns_at_once tree p xs retry ks (state_in rest old) ans none
    ∙ ap (flat.after_stack tree p ks) (assigns p (record rest { level = length old.memory.copies; units = old.units }) old.procedures.items ans (reads_in p rest old f))
    ∙ ap (λ ks. flat.means tree p (flat.config (flat.Unwind (state.Faults (Some (complaint_of x)))) (stack_of old.code.instrs.items old.memory.copies ks) (state_now rest old mem)) ans) (sym top))

-- the variables change first, then the mode and the stack
pub moved_then : (old m new : Machine) (x : Mode) → (let y : Machine = record old { memory = m.memory } in m ≡ y) → (let y : Machine = record m { mode = x; stack = new.stack } in new ≡ y) →
    (let y : Machine = record old { mode = x; stack = new.stack; memory = m.memory } in new ≡ y)
moved_then old m new x e moved = moved ∙ ap (λ (y : Machine). record y { mode = x; stack = new.stack }) e

pub pushed_then : (old m new : Machine) (next d : ℕ) (retry quiet : Bool) → (let y : Machine = record old { memory = m.memory } in m ≡ y) → new.stack.items ≡ (m.stack.items ++ stack.Then (task.RunsFrom next d retry) ∷ []) ++ stack.Handles quiet ∷ [] →
    new.stack.items ≡ (old.stack.items ++ stack.Then (task.RunsFrom next d retry) ∷ []) ++ stack.Handles quiet ∷ []
pushed_then old m new next d retry quiet e pushed = pushed ∙ ap (λ (y : Machine). (y.stack.items ++ stack.Then (task.RunsFrom next d retry) ∷ []) ++ stack.Handles quiet ∷ []) e

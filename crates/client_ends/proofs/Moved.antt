-- Steps that change the mode, the stack, the units and the memory.
use Rattle.std.proofs.Common.{◌≡◌, ◌⊎◌, ℕ, List, [], ◌++◌, refl, sym, ap, ◌∙◌, subst}
use Rattle.std.specs.Prelude.{Vec, reverse}
use Rattle.std.specs.declared.alloc.Global.{Global}
use Rattle.database_protocol.specs.declared.answer.Answer.{Answer}
use Rattle.database_protocol.specs.declared.operation.Op.{Op}
use Rattle.database_protocol.specs.declared.ends.StopWhy.TheVariants as why
use Rattle.bound_tree.specs.Tree.{Body}
use Rattle.block_meaning.specs.Program.{Program}
use Rattle.block_meaning.specs.State.{State, Copy}
use Rattle.block_meaning.proofs.Continues.{begins_itself}
use Rattle.flat_machine.specs.Flat as flat
use Rattle.flat_machine.specs.Flat.{IsCodeOf, means, config}
use Rattle.flat_machine.proofs.Machine.{step_means}
use Rattle.client_memory.specs.Memory.{Remembered}
use Rattle.client_values.specs.Variables.{HasSameShape}
use Rattle.client_values.proofs.Assigned.{same_shape, even_after}
use Rattle.client_machine.specs.declared.machine.Machine.{Machine}
use Rattle.client_machine.specs.declared.mode.Mode.{Mode}
use Rattle.client_machine.specs.declared.mode.Mode.TheVariants as mode
use Rattle.client_machine.specs.declared.mode.Completion.TheVariants as completion
use Rattle.client_machine.specs.declared.mode.OnAnswer.{OnAnswer}
use Rattle.client_machine.specs.declared.mode.StackEntry.{StackEntry}
use Rattle.client_machine.specs.declared.mode.Task.{Task}
use Rattle.client_machine.specs.AnswerClass.{KeepsAnswer}
use Rattle.client_machine.specs.Config.{mode_of, on_answer_of, stack_of, state_of, task_of, AreEven}
use Rattle.client_machine.specs.Machine.{config_of, stack_in, state_in}
use Rattle.client_machine.specs.Order.{nesting_of, AskingInOrder, HaveDepths, IsAskedFor, ModeInOrder, TaskInOrder}
use Rattle.client_machine.specs.Step.{code_in, FitsIn, KeepsTask}
use Rattle.client_machine.proofs.Answered.{answered_by}
use Rattle.client_machine.proofs.Fits.{moved_to, refits, same_code, has_same}
use Rattle.client_machine.proofs.Nestings.{nesting_same}
use Rattle.client_machine.proofs.Orders.{ask_order}

-- ---- a task

pub task_moved : (t : Task) (old new : Machine) → new ≡ moved_to old new →
    ((p : Program) (rest : State) → FitsIn p rest (mode.Execute t) old → AreEven old.procedures.items new.memory × (HaveDepths 0 new.memory.copies × ModeInOrder (nesting_of new.memory) new.mode (reverse new.stack.items))) →
    ((tree : ℕ → Body) (p : Program) (rest : State) → IsCodeOf (code_in old) p tree → FitsIn p rest (mode.Execute t) old → (ans : List Answer) → means tree p (config (flat.Execute (task_of old.code.instrs.items old.memory.copies t)) (stack_in old) (state_in rest old)) ans ≡ means tree p (config_of rest new) ans) →
    KeepsTask t old new
task_moved t old new moved inv means_same = λ tree p rest is f.
    let i = inv p rest f in
    record {
      rest = rest;
      code = same_code old new moved;
      fits = refits p rest (mode.Execute t) new.mode old new moved f (subst (λ (m : Machine). AreEven m.procedures.items new.memory) (sym moved) i.0) i.1.0 i.1.1;
      more = begins_itself rest.written;
      has = has_same old new rest.written moved;
      same = means_same tree p rest is f;
    }

-- entries are added, and buffers changed
pub buffers_moved : (t : Task) (old new : Machine) (m : Mode) (more : Vec StackEntry Global) (mem : Remembered) (added : List StackEntry) → (let x : Machine = record old { mode = m; stack = more; memory = mem } in new ≡ x) →
    HasSameShape old.memory mem → reverse more.items ≡ added ++ reverse old.stack.items →
    (TaskInOrder (nesting_of old.memory) t (reverse old.stack.items) → ModeInOrder (nesting_of old.memory) m (added ++ reverse old.stack.items)) →
    ((p : Program) (rest : State) → FitsIn p rest (mode.Execute t) old → config (mode_of old.code.instrs.items old.memory.copies m) (stack_of old.code.instrs.items old.memory.copies (added ++ reverse old.stack.items)) (state_of rest old.procedures.items mem old.units) ≡ flat.task_step (code_in old) p (task_of old.code.instrs.items old.memory.copies t) (stack_in old) (state_in rest old)) →
    KeepsTask t old new
buffers_moved t old new m more mem added e shape entries order steps =
    let code = old.code.instrs.items in
    let cs = old.memory.copies in
    let x : Machine = record old { mode = m; stack = more; memory = mem } in
    subst (KeepsTask t old) (sym e)
    (task_moved t old x refl
    (λ p rest f. (
      even_after old.procedures.items old.memory mem shape f.even,
      (
        subst (λ (xs : List Copy). HaveDepths 0 xs) (sym shape.copies) f.whole,
        subst (λ n. ModeInOrder n m (reverse more.items)) (sym (nesting_same old.memory mem shape.undoable shape.copies)) (subst (ModeInOrder (nesting_of old.memory) m) (sym entries) (order f.order)),
      ),
    ))
    (λ tree p rest is f ans.
    step_means (code_in old) tree p is (config (flat.Execute (task_of code cs t)) (stack_in old) (state_in rest old)) ans
    ∙ ap (λ c. means tree p c ans) (sym (steps p rest f))
    ∙ ap (λ (os : List StackEntry). means tree p (config (mode_of code cs m) (stack_of code cs os) (state_of rest old.procedures.items mem old.units)) ans) (sym entries)
    ∙ ap (λ (xs : List Copy). means tree p (config (mode_of code xs m) (stack_of code xs (reverse more.items)) (state_of rest old.procedures.items mem old.units)) ans) (sym shape.copies)))

-- entries are added
pub entries_moved : (t : Task) (old new : Machine) (m : Mode) (more : Vec StackEntry Global) (added : List StackEntry) → (let x : Machine = record old { mode = m; stack = more } in new ≡ x) → reverse more.items ≡ added ++ reverse old.stack.items →
    (TaskInOrder (nesting_of old.memory) t (reverse old.stack.items) → ModeInOrder (nesting_of old.memory) m (added ++ reverse old.stack.items)) →
    ((p : Program) (rest : State) → FitsIn p rest (mode.Execute t) old → config (mode_of old.code.instrs.items old.memory.copies m) (stack_of old.code.instrs.items old.memory.copies (added ++ reverse old.stack.items)) (state_in rest old) ≡ flat.task_step (code_in old) p (task_of old.code.instrs.items old.memory.copies t) (stack_in old) (state_in rest old)) →
    KeepsTask t old new
entries_moved t old new m more added e entries order steps = buffers_moved t old new m more old.memory added e (same_shape old.memory) entries order steps

-- the mode alone
pub mode_moved : (t : Task) (old new : Machine) (m : Mode) → (let x : Machine = record old { mode = m } in new ≡ x) →
    (TaskInOrder (nesting_of old.memory) t (reverse old.stack.items) → ModeInOrder (nesting_of old.memory) m (reverse old.stack.items)) →
    ((p : Program) (rest : State) → FitsIn p rest (mode.Execute t) old → config (mode_of old.code.instrs.items old.memory.copies m) (stack_in old) (state_in rest old) ≡ flat.task_step (code_in old) p (task_of old.code.instrs.items old.memory.copies t) (stack_in old) (state_in rest old)) →
    KeepsTask t old new
mode_moved t old new m e order steps = entries_moved t old new m old.stack [] e refl order steps

-- an operation is asked, after buffers were changed
pub asks_moved : (t : Task) (o : Op) (k : OnAnswer) (old new : Machine) (mem : Remembered) → (let x : Machine = record old { mode = new.mode; units = new.units; memory = mem } in new ≡ x) →
    HasSameShape old.memory mem → (new.mode ≡ mode.Await o k) ⊎ (new.mode ≡ mode.Unwind (completion.Stops why.Budget)) →
    (TaskInOrder (nesting_of old.memory) t (reverse old.stack.items) → IsAskedFor k o × AskingInOrder (nesting_of old.memory) k (reverse old.stack.items)) →
    ((rest : State) → config_of rest new ≡ flat.ask o (on_answer_of old.code.instrs.items mem.copies o k) (stack_of old.code.instrs.items mem.copies (reverse old.stack.items)) (state_of rest old.procedures.items mem old.units)) →
    ((p : Program) (rest : State) → FitsIn p rest (mode.Execute t) old → flat.ask o (on_answer_of old.code.instrs.items old.memory.copies o k) (stack_in old) (state_of rest old.procedures.items mem old.units) ≡ flat.task_step (code_in old) p (task_of old.code.instrs.items old.memory.copies t) (stack_in old) (state_in rest old)) →
    KeepsTask t old new
asks_moved t o k old new mem e shape is order asks steps =
    let code = old.code.instrs.items in
    let cs = old.memory.copies in
    let ks = reverse old.stack.items in
    let mem_is : new.memory ≡ mem = ap (λ (m : Machine). m.memory) e in
    let stack_is : new.stack ≡ old.stack = ap (λ (m : Machine). m.stack) e in
    task_moved t old new (e ∙ sym (ap (moved_to old) e))
    (λ p rest f. (
      subst (λ (m : Remembered). AreEven old.procedures.items m) (sym mem_is) (even_after old.procedures.items old.memory mem shape f.even),
      (
        subst (λ (m : Remembered). HaveDepths 0 m.copies) (sym mem_is) (subst (λ (xs : List Copy). HaveDepths 0 xs) (sym shape.copies) f.whole),
        subst (λ (m : Remembered). ModeInOrder (nesting_of m) new.mode (reverse new.stack.items)) (sym mem_is)
            (subst (λ n. ModeInOrder n new.mode (reverse new.stack.items)) (sym (nesting_same old.memory mem shape.undoable shape.copies))
            (subst (λ (s : Vec StackEntry Global). ModeInOrder (nesting_of old.memory) new.mode (reverse s.items)) (sym stack_is)
            (ask_order (nesting_of old.memory) o k new.mode ks is (order f.order).0 (order f.order).1))),
      ),
    ))
    (λ tree p rest is f ans.
    step_means (code_in old) tree p is (config (flat.Execute (task_of code cs t)) (stack_in old) (state_in rest old)) ans
    ∙ ap (λ c. means tree p c ans) (sym (steps p rest f))
    ∙ ap (λ (xs : List Copy). means tree p (flat.ask o (on_answer_of code xs o k) (stack_of code xs ks) (state_of rest old.procedures.items mem old.units)) ans) (sym shape.copies)
    ∙ ap (λ c. means tree p c ans) (sym (asks rest)))

-- the same where no buffer was changed
pub asks_kept : (t : Task) (o : Op) (k : OnAnswer) (old new : Machine) → (let x : Machine = record old { mode = new.mode; units = new.units } in new ≡ x) →
    (new.mode ≡ mode.Await o k) ⊎ (new.mode ≡ mode.Unwind (completion.Stops why.Budget)) →
    (TaskInOrder (nesting_of old.memory) t (reverse old.stack.items) → IsAskedFor k o × AskingInOrder (nesting_of old.memory) k (reverse old.stack.items)) →
    ((rest : State) → config_of rest new ≡ flat.ask o (on_answer_of old.code.instrs.items old.memory.copies o k) (stack_in old) (state_in rest old)) →
    ((p : Program) (rest : State) → FitsIn p rest (mode.Execute t) old → flat.ask o (on_answer_of old.code.instrs.items old.memory.copies o k) (stack_in old) (state_in rest old) ≡ flat.task_step (code_in old) p (task_of old.code.instrs.items old.memory.copies t) (stack_in old) (state_in rest old)) →
    KeepsTask t old new
asks_kept t o k old new e is order asks steps = asks_moved t o k old new old.memory e (same_shape old.memory) is order asks steps

-- ---- an answer

pub answer_moved : (o : Op) (k : OnAnswer) (a : Answer) (old new : Machine) (m : Mode) (mem : Remembered) → (let x : Machine = record old { mode = m; memory = mem } in new ≡ x) → HasSameShape old.memory mem →
    ((p : Program) (c : flat.OnAnswer) (ks : List flat.StackEntry) (s : State) → flat.answered p a o c ks s ≡ flat.answer_step p c a ks s) →
    (AskingInOrder (nesting_of old.memory) k (reverse old.stack.items) → ModeInOrder (nesting_of old.memory) m (reverse old.stack.items)) →
    ((p : Program) (rest : State) → FitsIn p rest (mode.Await o k) old → config (mode_of old.code.instrs.items old.memory.copies m) (stack_in old) (state_of rest old.procedures.items mem old.units) ≡ flat.answer_step p (on_answer_of old.code.instrs.items old.memory.copies o k) a (stack_in old) (state_in rest old)) →
    KeepsAnswer o k a old new
answer_moved o k a old new m mem e shape done order steps =
    let code = old.code.instrs.items in
    answered_by o k a old new m mem e (even_after old.procedures.items old.memory mem shape)
    (λ p rest f. (
      subst (λ (xs : List Copy). HaveDepths 0 xs) (sym shape.copies) f.whole,
      subst (λ n. ModeInOrder n m (reverse old.stack.items)) (sym (nesting_same old.memory mem shape.undoable shape.copies)) (order f.order.1),
    ))
    (λ p rest f.
    ap (config_of rest) e
    ∙ ap (λ (xs : List Copy). config (mode_of code xs m) (stack_of code xs (reverse old.stack.items)) (state_of rest old.procedures.items mem old.units)) shape.copies
    ∙ steps p rest f
    ∙ sym (done p (on_answer_of code old.memory.copies o k) (stack_in old) (state_in rest old)))

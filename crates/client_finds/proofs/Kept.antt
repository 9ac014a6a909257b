-- What the parts of a step keep, from one to the next.
use Rattle.std.proofs.Common.{◌≡◌, ◌⊎◌, inl, inr, Bool, ℕ, List, [], ◌∷◌, ◌++◌, None, length, refl, sym, ap, ◌∙◌, subst}
use Rattle.std.specs.Prelude.{Err, Ok, OnOk, Result, map, reverse}
use Rattle.database_protocol.specs.declared.answer.Answer.{Answer}
use Rattle.database_protocol.specs.declared.operation.Op.{Op}
use Rattle.bound_tree.specs.Tree.{Body}
use Rattle.block_meaning.specs.Lines.{Complaint}
use Rattle.block_meaning.specs.Program.{Program}
use Rattle.block_meaning.specs.State.{State, Copy}
use Rattle.block_meaning.proofs.Continues.{begins_itself}
use Rattle.flat_machine.specs.Flat as flat
use Rattle.flat_machine.specs.Flat.{IsCodeOf}
use Rattle.flat_machine.proofs.Machine.{step_means, answered_means}
use Rattle.client_memory.specs.Memory.{Remembered}
use Rattle.client_memory.specs.Frames.{state_with}
use Rattle.client_output.proofs.Unchanged.{written_same}
use Rattle.client_machine.specs.declared.machine.Machine.{Machine}
use Rattle.client_machine.specs.declared.answers.AnswerClass.TheVariants as answer_class
use Rattle.client_machine.specs.declared.mode.Completion.{Completion}
use Rattle.client_machine.specs.declared.mode.Completion.TheVariants as completion
use Rattle.client_machine.specs.declared.mode.Mode.{Mode}
use Rattle.client_machine.specs.declared.mode.Mode.TheVariants as mode
use Rattle.client_machine.specs.declared.mode.OnAnswer.{OnAnswer}
use Rattle.client_machine.specs.declared.mode.OnAnswer.TheVariants as on_answer
use Rattle.client_machine.specs.declared.mode.reads.ReadAnswer.{ReadAnswer}
use Rattle.database_protocol.specs.declared.ends.StopWhy.TheVariants as why
use Rattle.client_machine.specs.declared.mode.StackEntry.{StackEntry}
use Rattle.client_machine.specs.declared.mode.Task.{Task}
use Rattle.client_machine.specs.AnswerClass.{IsOfAnswerClass, KeepsAnswer}
use Rattle.client_machine.specs.Config.{completion_of, entry_of, mode_of, on_answer_of, stack_of, task_of}
use Rattle.client_machine.specs.Inputs.{names_of}
use Rattle.client_machine.specs.KeepsFrom.{KeepsFrom}
use Rattle.client_machine.specs.Machine.{config_of, stack_in, state_in}
use Rattle.client_machine.specs.Order.{AskingInOrder, CompletesInOrder, HaveDepths, InOrder, IsNotOnLevels, ModeInOrder, Named, Nesting, TaskInOrder, nesting_of}
use Rattle.client_machine.specs.Step.{FitsIn, KeepsEntry, KeepsTask, code_in}
use Rattle.block_code.specs.declared.code.Instr.{Instr}
use Rattle.client_finds.specs.Steps.{instrs_in}
use Rattle.client_finds.specs.Stays.{ReadsIn, Stays, StaysIn, state_under}

-- what a call ensures where it succeeds
pub on_ok : {A E : Type 0} {P Q : Type 0} (r : Result A E) → (P → Q) → OnOk r P → OnOk r Q
on_ok (Ok x) f h = f h
on_ok (Err e) f h = h

-- ---- what a step reads

-- the other fields of the state
abbrev pub rest_now : State → Machine → State
rest_now rest old = record rest { level = length old.memory.copies; units = old.units }

abbrev pub FitsNow : Program → State → Machine → Type 0
FitsNow p rest old = FitsIn p rest (mode.Unwind completion.Normal) old

pub reads_now : (p : Program) (rest : State) (old : Machine) → FitsNow p rest old → ReadsIn p (rest_now rest old) old
reads_now p rest old f = record { forms = f.program.forms; even = f.even; status_is = f.state.status_is; returned_is = f.state.returned_is }

-- ---- the same memory

-- the mode, the stack and the units alone have changed
pub moved_kept : (from : Program → State → flat.Config) (old new : Machine) → (let m : Machine = record old { mode = new.mode; stack = new.stack; units = new.units } in new ≡ m) →
    (InOrder (nesting_of old.memory) (reverse old.stack.items) → ModeInOrder (nesting_of old.memory) new.mode (reverse new.stack.items)) →
    ((p : Program) (rest : State) → FitsNow p rest old → from p (state_in rest old) ≡ config_of rest new) → KeepsFrom from old new
moved_kept from old new moved order same = λ tree p rest is f.
    record {
      rest = rest;
      code = ap (λ (m : Machine). m.code) moved;
      fits = subst (λ (n : Machine). FitsIn p rest n.mode n) (sym moved) (record { program = f.program; state = f.state; even = f.even; whole = f.whole; order = order f.order.1 });
      more = begins_itself rest.written;
      has = λ has. written_same old.output new.output (names_of old.code) rest.written (ap (λ (m : Machine). m.output) moved) has;
      same = λ ans. ap (λ c. flat.means tree p c ans) (same p rest f);
    }

-- another configuration from which the run is the same
pub means_kept : (from from' : Program → State → flat.Config) (old new : Machine) →
    ((tree : ℕ → Body) (p : Program) (rest : State) → IsCodeOf (code_in old) p tree → FitsNow p rest old → (ans : List Answer) → flat.means tree p (from p (state_in rest old)) ans ≡ flat.means tree p (from' p (state_in rest old)) ans) →
    KeepsFrom from' old new → KeepsFrom from old new
means_kept from from' old new same keeps = λ tree p rest is f.
    let k = keeps tree p rest is f in
    record { rest = k.rest; code = k.code; fits = k.fits; more = k.more; has = k.has; same = λ ans. same tree p rest is f ans ∙ k.same ans }

-- the same configuration
pub same_kept : (from from' : Program → State → flat.Config) (old new : Machine) → ((p : Program) (rest : State) → FitsNow p rest old → from p (state_in rest old) ≡ from' p (state_in rest old)) →
    KeepsFrom from' old new → KeepsFrom from old new
same_kept from from' old new same keeps = means_kept from from' old new (λ tree p rest is f ans. ap (λ c. flat.means tree p c ans) (same p rest f)) keeps

-- the step of a task
pub step_kept : (t : flat.Task) (from : Program → State → flat.Config) (old new : Machine) → ((p : Program) (rest : State) → FitsNow p rest old → flat.task_step (code_in old) p t (stack_in old) (state_in rest old) ≡ from p (state_in rest old)) →
    KeepsFrom from old new → KeepsFrom (λ p s. flat.config (flat.Execute t) (stack_in old) s) old new
step_kept t from old new steps keeps =
    means_kept (λ p s. flat.config (flat.Execute t) (stack_in old) s) from old new
    (λ tree p rest is f ans. step_means (code_in old) tree p is (flat.config (flat.Execute t) (stack_in old) (state_in rest old)) ans ∙ ap (λ c. flat.means tree p c ans) (steps p rest f)) keeps

-- ---- an entry more

pub pushed_kept : (from : List Instr → Program → List flat.StackEntry → State → flat.Config) (old mid new : Machine) (e : StackEntry) → (let m : Machine = record old { stack = mid.stack } in mid ≡ m) → reverse mid.stack.items ≡ e ∷ reverse old.stack.items →
    (InOrder (nesting_of old.memory) (reverse old.stack.items) → InOrder (nesting_of old.memory) (e ∷ reverse old.stack.items)) →
    KeepsFrom (λ p s. from (instrs_in mid) p (stack_in mid) s) mid new → KeepsFrom (λ p s. from (instrs_in old) p (entry_of (instrs_in old) old.memory.copies e ∷ stack_in old) s) old new
pushed_kept from old mid new e moved top order keeps = λ tree p rest is f.
    let x : Machine = record old { stack = mid.stack } in
    let kept = subst (λ (m : Machine). KeepsFrom (λ p s. from (instrs_in m) p (stack_in m) s) m new) moved keeps in
    let k = kept tree p rest is (record { program = f.program; state = f.state; even = f.even; whole = f.whole; order = (tt, subst (λ ks. InOrder (nesting_of old.memory) ks) (sym top) (order f.order.1)) }) in
    record {
      rest = k.rest;
      code = k.code;
      fits = k.fits;
      more = k.more;
      has = k.has;
      same = λ ans. ap (λ ks. flat.means tree p (from (instrs_in old) p (stack_of (instrs_in old) old.memory.copies ks) (state_in rest old)) ans) (sym top) ∙ k.same ans;
    }

-- ---- another memory

pub nesting_stays : (ns : List ℕ) (old new : Remembered) → length ns ≡ length old.undoable → Stays ns old new → nesting_of new ≡ nesting_of old
nesting_stays ns old new even stays =
    ap (λ k. let n : Nesting = record { procedures = k; levels = map (λ (c : Copy). length c.frames) new.copies } in n) (sym stays.even.0 ∙ even)
    ∙ ap (λ (cs : List Copy). let n : Nesting = record { procedures = length old.undoable; levels = map (λ (c : Copy). length c.frames) cs } in n) stays.copies

memory_to : (from : Program → State → flat.Config) (from' : Program → List flat.StackEntry → State → flat.Config) (old new : Machine) (mem : Remembered) → StaysIn old mem →
    ((p : Program) (rest : State) → FitsNow p rest old → from p (state_in rest old) ≡ from' p (stack_in old) (state_with (rest_now rest old) old.procedures.items mem)) →
    (let mid : Machine = record old { memory = mem } in KeepsFrom (λ p s. from' p (stack_in mid) s) mid new) → KeepsFrom from old new
memory_to from from' old new mem stays steps keeps = λ tree p rest is f.
    let mid : Machine = record old { memory = mem } in
    let s = stays p (rest_now rest old) (reads_now p rest old f) in
    let k = keeps tree p rest is (record {
      program = f.program;
      state = f.state;
      even = s.even;
      whole = subst (λ (cs : List Copy). HaveDepths 0 cs) (sym s.copies) f.whole;
      order = (tt, subst (λ n. InOrder n (reverse old.stack.items)) (sym (nesting_stays old.procedures.items old.memory mem f.even.0 s)) f.order.1);
    }) in
    record {
      rest = k.rest;
      code = k.code;
      fits = k.fits;
      more = k.more;
      has = k.has;
      same = λ ans. ap (λ c. flat.means tree p c ans) (steps p rest f
          ∙ ap (λ (cs : List Copy). from' p (stack_of old.code.instrs.items cs (reverse old.stack.items)) (state_with (record rest { level = length cs; units = old.units }) old.procedures.items mem)) (sym s.copies))
          ∙ k.same ans;
    }

-- the memory alone has changed, and then the machine went on
pub memory_kept : (from : Program → State → flat.Config) (from' : List Instr → Program → List flat.StackEntry → State → flat.Config) (old mid new : Machine) → (let m : Machine = record old { memory = mid.memory } in mid ≡ m) → StaysIn old mid.memory →
    ((p : Program) (rest : State) → FitsNow p rest old → from p (state_in rest old) ≡ from' (instrs_in old) p (stack_in old) (state_under (rest_now rest old) mid)) →
    KeepsFrom (λ p s. from' (instrs_in mid) p (stack_in mid) s) mid new → KeepsFrom from old new
memory_kept from from' old mid new moved stays steps keeps =
    memory_to from (from' (instrs_in old)) old new mid.memory stays
    (λ p rest f. steps p rest f ∙ ap (λ (m : Machine). from' (instrs_in old) p (stack_in old) (state_with (rest_now rest old) m.procedures.items mid.memory)) moved)
    (subst (λ (m : Machine). KeepsFrom (λ p s. from' (instrs_in m) p (stack_in m) s) m new) moved keeps)

-- ---- the contracts of the machine

pub task_from : (task : Task) (old new : Machine) → (TaskInOrder (nesting_of old.memory) task (reverse old.stack.items) → InOrder (nesting_of old.memory) (reverse old.stack.items)) →
    KeepsFrom (λ p s. flat.config (flat.Execute (task_of old.code.instrs.items old.memory.copies task)) (stack_in old) s) old new → KeepsTask task old new
task_from task old new order keeps = λ tree p rest is f. keeps tree p rest is (record { program = f.program; state = f.state; even = f.even; whole = f.whole; order = (tt, order f.order) })

pub answer_from : (o : Op) (asking : OnAnswer) (a : Answer) (old new : Machine) → IsOfAnswerClass answer_class.Done a →
    (AskingInOrder (nesting_of old.memory) asking (reverse old.stack.items) → InOrder (nesting_of old.memory) (reverse old.stack.items)) →
    KeepsFrom (λ p s. flat.answer_step p (on_answer_of old.code.instrs.items old.memory.copies o asking) a (stack_in old) s) old new → KeepsAnswer o asking a old new
answer_from o asking a old new done order keeps = λ tree p rest is f.
    let k = keeps tree p rest is (record { program = f.program; state = f.state; even = f.even; whole = f.whole; order = (tt, order f.order.1) }) in
    let on = on_answer_of old.code.instrs.items old.memory.copies o asking in
    record {
      rest = k.rest;
      code = k.code;
      fits = k.fits;
      more = k.more;
      has = k.has;
      same = λ ans. answered_means tree p a o on (stack_in old) (state_in rest old) ans ∙ ap (λ c. flat.means tree p c ans) (done p o on (stack_in old) (state_in rest old)) ∙ k.same ans;
    }

pub entry_from : (entry : StackEntry) (w : Completion) (old new : Machine) → (CompletesInOrder (nesting_of old.memory) w (entry ∷ reverse old.stack.items) → InOrder (nesting_of old.memory) (reverse old.stack.items)) →
    KeepsFrom (λ p s. flat.pop_step p (entry_of old.code.instrs.items old.memory.copies entry) (completion_of old.code.instrs.items old.memory.copies w) (stack_in old) s) old new → KeepsEntry entry w old new
entry_from entry w old new order keeps = λ tree p rest is f.
    let k = keeps tree p rest is (record { program = f.program; state = f.state; even = f.even; whole = f.whole; order = (tt, order f.order) }) in
    record {
      rest = k.rest;
      code = k.code;
      fits = k.fits;
      more = k.more;
      has = k.has;
      same = λ ans.
          step_means (code_in old) tree p is (flat.config (flat.Unwind (completion_of old.code.instrs.items old.memory.copies w)) (entry_of old.code.instrs.items old.memory.copies entry ∷ stack_in old) (state_in rest old)) ans
          ∙ k.same ans;
    }

-- ---- how a step ends

-- it asks, or no unit is left
pub asked_order : (n : Nesting) (o : Op) (k : ReadAnswer) (xs ys : List StackEntry) (m : Mode) → IsNotOnLevels o → (m ≡ mode.Await o (on_answer.Read k)) ⊎ (m ≡ mode.Unwind (completion.Stops why.Budget)) → ys ≡ xs → InOrder n (reverse xs) → ModeInOrder n m (reverse ys)
asked_order n o k xs ys m kind (inl e) same order = subst (λ x. ModeInOrder n x (reverse ys)) (sym e) (kind, subst (λ (zs : List StackEntry). InOrder n (reverse zs)) (sym same) order)
asked_order n o k xs ys m kind (inr e) same order = subst (λ x. ModeInOrder n x (reverse ys)) (sym e) tt

-- it unwinds, or executes a task
pub mode_kept : (from : Program → State → flat.Config) (old new : Machine) (m : Mode) → (let x : Machine = record old { mode = m } in new ≡ x) →
    (InOrder (nesting_of old.memory) (reverse old.stack.items) → ModeInOrder (nesting_of old.memory) m (reverse old.stack.items)) →
    ((p : Program) (rest : State) → FitsNow p rest old → from p (state_in rest old) ≡ flat.config (mode_of old.code.instrs.items old.memory.copies m) (stack_in old) (state_in rest old)) → KeepsFrom from old new
mode_kept from old new m moved order same =
    let x : Machine = record old { mode = m } in
    subst (KeepsFrom from old) (sym moved) (moved_kept from old x refl order same)

-- ---- steps on buffers

-- a call has changed the memory, as the step does
pub memory_goes : (from : Program → State → flat.Config) (from' : List Instr → Program → List flat.StackEntry → State → flat.Config) (old mid new : Machine) → (let m : Machine = record old { memory = mid.memory } in mid ≡ m) → StaysIn old mid.memory →
    ((p : Program) (rest : State) → ReadsIn p rest old → from p (state_under rest old) ≡ from' (instrs_in old) p (stack_in old) (state_under rest mid)) →
    KeepsFrom (λ p s. from' (instrs_in mid) p (stack_in mid) s) mid new → KeepsFrom from old new
memory_goes from from' old mid new moved stays steps keeps =
    memory_kept from from' old mid new moved stays (λ p rest f. steps p (rest_now rest old) (reads_now p rest old f)) keeps

-- then it fails with the complaint about a buffer
pub refused_kept : (from : Program → State → flat.Config) (old mid new : Machine) (c : ℕ → Complaint) (buffer b : ℕ) → (let m : Machine = record old { memory = mid.memory } in mid ≡ m) → StaysIn old mid.memory → buffer ≡ b →
    ((p : Program) (rest : State) → ReadsIn p rest old → from p (state_under rest old) ≡ flat.fault (c b) (stack_in old) (state_under rest mid)) →
    KeepsFrom (λ p s. flat.fault (c buffer) (stack_in mid) s) mid new → KeepsFrom from old new
refused_kept from old mid new c buffer b moved stays same steps keeps =
    memory_goes from (λ is p ks s. flat.fault (c buffer) ks s) old mid new moved stays
    (λ p rest reads. steps p rest reads ∙ ap (λ n. flat.fault (c n) (stack_in old) (state_under rest mid)) (sym same)) keeps

-- ---- operations

-- the operation is that of the step
pub asked_kept : (old new : Machine) (o : Op) (asking : flat.OnAnswer) (wanted : State → Op) → ((p : Program) (rest : State) → ReadsIn p rest old → o ≡ wanted (state_under rest old)) →
    KeepsFrom (λ p s. flat.ask o asking (stack_in old) s) old new → KeepsFrom (λ p s. flat.ask (wanted s) asking (stack_in old) s) old new
asked_kept old new o asking wanted is keeps =
    same_kept (λ p s. flat.ask (wanted s) asking (stack_in old) s) (λ p s. flat.ask o asking (stack_in old) s) old new
    (λ p rest f. ap (λ x. flat.ask x asking (stack_in old) (state_in rest old)) (sym (is p (rest_now rest old) (reads_now p rest old f)))) keeps

-- What the parts of a step keep, whatever they do to the memory.
use Rattle.std.proofs.Common.{◌≡◌, ◌⊎◌, inl, inr, ℕ, length, List, None, refl, sym, ap, ◌∙◌, subst}
use Rattle.std.specs.Prelude.{Result, Ok, Err, OnOk, Vec, map, reverse}
use Rattle.std.specs.declared.alloc.Global.{Global}
use Rattle.database_protocol.specs.declared.answer.Answer.{Answer}
use Rattle.database_protocol.specs.declared.operation.Op.{Op}
use Rattle.database_protocol.specs.declared.ends.StopWhy.TheVariants as why
use Rattle.bound_tree.specs.Tree.{Body}
use Rattle.block_meaning.specs.Program.{Program}
use Rattle.block_meaning.specs.State.{State, Copy}
use Rattle.block_meaning.proofs.Continues.{begins_itself}
use Rattle.flat_machine.specs.Flat as flat
use Rattle.flat_machine.specs.Flat.{IsCodeOf}
use Rattle.flat_machine.proofs.Machine.{answered_means, step_means}
use Rattle.client_memory.specs.Memory.{Remembered}
use Rattle.client_output.proofs.Unchanged.{written_same}
use Rattle.client_machine.specs.declared.machine.Machine.{Machine}
use Rattle.client_machine.specs.declared.mode.Mode.{Mode}
use Rattle.client_machine.specs.declared.mode.Mode.TheVariants as mode
use Rattle.client_machine.specs.declared.mode.Completion.TheVariants as completion
use Rattle.client_machine.specs.declared.mode.Task.TheVariants as task
use Rattle.client_machine.specs.declared.mode.OnAnswer.TheVariants as on_answer
use Rattle.client_machine.specs.declared.mode.StackEntry.{StackEntry}
use Rattle.client_machine.specs.declared.mode.changes.ChangeAnswer.{ChangeAnswer}
use Rattle.client_machine.specs.declared.mode.changes.ChangeTask.{ChangeTask}
use Rattle.client_machine.specs.declared.answers.AnswerClass.TheVariants as answer_class
use Rattle.client_machine.specs.AnswerClass.{IsOfAnswerClass, KeepsAnswer}
use Rattle.client_machine.specs.Config.{change_answer_of, change_task_of, mode_of, stack_of, state_of}
use Rattle.client_machine.specs.Inputs.{IsProgramOf, names_of}
use Rattle.client_machine.specs.KeepsFrom.{KeepsFrom}
use Rattle.client_machine.specs.Machine.{config_of, stack_in, state_in}
use Rattle.client_machine.specs.Order.{HaveDepths, InOrder, IsNotOnLevels, ModeInOrder, Named, Nesting, nesting_of}
use Rattle.client_machine.specs.Step.{FitsIn, KeepsTask, RestFits, code_in}
use Rattle.client_records.specs.Reads.{ReadsOf}

pub on_ok : {A E : Type 0} {P Q : Type 0} (r : Result A E) → (P → Q) → OnOk r P → OnOk r Q
on_ok (Ok x) f p = f p
on_ok (Err e) f p = p

-- the mode in which the parts of a step begin
abbrev pub begun_mode : Mode
begun_mode = mode.Unwind completion.Normal

pub reads_of : (p : Program) (rest : State) (x : Mode) (m : Machine) → FitsIn p rest x m → ReadsOf p rest m
reads_of p rest x m f = record { forms = f.program.forms; even = f.even; status_is = f.state.status_is; returned_is = f.state.returned_is }

-- the fields that these steps change
abbrev pub moved_to : Machine → Machine → Machine
moved_to old new = record old { mode = new.mode; stack = new.stack; units = new.units; memory = new.memory }

pub same_nesting : (m n : Remembered) → length n.undoable ≡ length m.undoable → n.copies ≡ m.copies → nesting_of n ≡ nesting_of m
same_nesting m n e1 e2 =
    ap (λ k. let x : Nesting = record { procedures = k; levels = map (λ c. length c.frames) n.copies } in x) e1
    ∙ ap (λ (cs : List Copy). let x : Nesting = record { procedures = length m.undoable; levels = map (λ c. length c.frames) cs } in x) e2

-- the invariant after a part of a step
fits_after : (p : Program) (rest : State) (old new : Machine) → new ≡ moved_to old new → new.memory.copies ≡ old.memory.copies → ReadsOf p rest new → FitsIn p rest begun_mode old →
    ModeInOrder (nesting_of old.memory) new.mode (reverse new.stack.items) → FitsIn p rest new.mode new
fits_after p rest old new moved copies reads f order =
    let same_ns : length new.procedures.items ≡ length old.procedures.items = ap (λ (m : Machine). length m.procedures.items) moved in
    record {
      program = subst (λ (m : Machine). IsProgramOf p m.code m.inputs) (sym moved) f.program;
      state = subst (λ (m : Machine). RestFits rest m) (sym moved) f.state;
      even = reads.even;
      whole = subst (λ (cs : List Copy). HaveDepths 0 cs) (sym copies) f.whole;
      order = subst (λ (n : Nesting). ModeInOrder n new.mode (reverse new.stack.items)) (sym (same_nesting old.memory new.memory (sym reads.even.0 ∙ same_ns ∙ f.even.0) copies)) order;
    }

-- a part of a step that changes the mode, the stack, the units and the memory, and no level
pub from_kept : (from : Program → State → flat.Config) (old new : Machine) → new ≡ moved_to old new → new.memory.copies ≡ old.memory.copies →
    ((p : Program) (rest : State) → ReadsOf p rest old → ReadsOf p rest new) →
    ((p : Program) (rest : State) → FitsIn p rest begun_mode old → ModeInOrder (nesting_of old.memory) new.mode (reverse new.stack.items)) →
    ((tree : ℕ → Body) (p : Program) (rest : State) → IsCodeOf (code_in old) p tree → FitsIn p rest begun_mode old → (ans : List Answer) → flat.means tree p (from p (state_in rest old)) ans ≡ flat.means tree p (config_of rest new) ans) →
    KeepsFrom from old new
from_kept from old new moved copies reads order same = λ tree p rest is f.
    record {
      rest = rest;
      code = ap (λ (m : Machine). m.code) moved;
      fits = fits_after p rest old new moved copies (reads p rest (reads_of p rest begun_mode old f)) f (order p rest f);
      more = begins_itself rest.written;
      has = λ has. written_same old.output new.output (names_of old.code) rest.written (ap (λ (m : Machine). m.output) moved) has;
      same = same tree p rest is f;
    }

-- the same where only the mode changes
pub mode_kept : (from : Program → State → flat.Config) (old new : Machine) (x : Mode) → (let m : Machine = record old { mode = x } in new ≡ m) →
    (Named (nesting_of old.memory) None (reverse old.stack.items) → ModeInOrder (nesting_of old.memory) x (reverse old.stack.items)) →
    ((p : Program) (rest : State) → FitsIn p rest begun_mode old → from p (state_in rest old) ≡ flat.config (mode_of old.code.instrs.items old.memory.copies x) (stack_in old) (state_in rest old)) →
    KeepsFrom from old new
mode_kept from old new x moved order goes =
    let m : Machine = record old { mode = x } in
    subst (λ (n : Machine). KeepsFrom from old n) (sym moved)
    (from_kept from old m refl refl (λ p rest r. r) (λ p rest f. order f.order) (λ tree p rest is f ans. ap (λ c. flat.means tree p c ans) (goes p rest f)))

ask_order : (n : Nesting) (o : Op) (k : ChangeAnswer) (x : Mode) (ks : List StackEntry) → (x ≡ mode.Await o (on_answer.Change k)) ⊎ (x ≡ mode.Unwind (completion.Stops why.Budget)) → IsNotOnLevels o → InOrder n ks → ModeInOrder n x ks
ask_order n o k x ks (inl e) levels order = subst (λ (y : Mode). ModeInOrder n y ks) (sym e) (levels, order)
ask_order n o k x ks (inr e) levels order = subst (λ (y : Mode). ModeInOrder n y ks) (sym e) tt

reads_same : (p : Program) (rest : State) (old : Machine) (x : Mode) (ks : Vec StackEntry Global) (u : ℕ) → ReadsOf p rest old → (let m : Machine = record old { mode = x; stack = ks; units = u } in ReadsOf p rest m)
reads_same p rest old x ks u r = record { forms = r.forms; even = r.even; status_is = r.status_is; returned_is = r.returned_is }

-- an operation is asked for, after entries were pushed
pub ask_after : (from : Program → State → flat.Config) (old mid new : Machine) (o : Op) (k : ChangeAnswer) → (let m : Machine = record old { stack = mid.stack } in mid ≡ m) →
    (let m : Machine = record mid { mode = new.mode; units = new.units } in new ≡ m) →
    (new.mode ≡ mode.Await o (on_answer.Change k)) ⊎ (new.mode ≡ mode.Unwind (completion.Stops why.Budget)) →
    ((rest : State) → config_of rest new ≡ flat.ask o (change_answer_of k) (stack_in mid) (state_in rest mid)) →
    (InOrder (nesting_of old.memory) (reverse old.stack.items) → InOrder (nesting_of old.memory) (reverse mid.stack.items)) →
    ((p : Program) (rest : State) → FitsIn p rest begun_mode old → IsNotOnLevels o) →
    ((p : Program) (rest : State) → FitsIn p rest begun_mode old → from p (state_in rest old) ≡ flat.ask o (change_answer_of k) (stack_in mid) (state_in rest mid)) →
    KeepsFrom from old new
ask_after from old mid new o k pushed moved is asks order levels goes =
    let moved-1 : new ≡ record old { mode = new.mode; stack = mid.stack; units = new.units } = moved ∙ ap (λ (m : Machine). record m { mode = new.mode; units = new.units }) pushed in
    let stack : new.stack ≡ mid.stack = ap (λ (m : Machine). m.stack) moved-1 in
    let memory : new.memory ≡ old.memory = ap (λ (m : Machine). m.memory) moved-1 in
    let moved-2 : new ≡ moved_to old new =
    moved-1 ∙ ap (λ (xs : Vec StackEntry Global). record old { mode = new.mode; stack = xs; units = new.units }) (sym stack)
    ∙ ap (λ (m : Remembered). record old { mode = new.mode; stack = new.stack; units = new.units; memory = m }) (sym memory) in
    from_kept from old new moved-2 (ap (λ (m : Remembered). m.copies) memory)
    (λ p rest r. subst (λ (m : Machine). ReadsOf p rest m) (sym moved-1) (reads_same p rest old new.mode mid.stack new.units r))
    (λ p rest f. subst (λ (xs : Vec StackEntry Global). ModeInOrder (nesting_of old.memory) new.mode (reverse xs.items)) (sym stack) (ask_order (nesting_of old.memory) o k new.mode (reverse mid.stack.items) is (levels p rest f) (order f.order.1)))
    (λ tree p rest is f ans. ap (λ c. flat.means tree p c ans) (goes p rest f ∙ sym (asks rest)))

-- an operation is asked for
pub ask_kept : (from : Program → State → flat.Config) (old new : Machine) (o : Op) (k : ChangeAnswer) → (let m : Machine = record old { mode = new.mode; units = new.units } in new ≡ m) →
    (new.mode ≡ mode.Await o (on_answer.Change k)) ⊎ (new.mode ≡ mode.Unwind (completion.Stops why.Budget)) →
    ((rest : State) → config_of rest new ≡ flat.ask o (change_answer_of k) (stack_in old) (state_in rest old)) →
    ((p : Program) (rest : State) → FitsIn p rest begun_mode old → IsNotOnLevels o) →
    ((p : Program) (rest : State) → FitsIn p rest begun_mode old → from p (state_in rest old) ≡ flat.ask o (change_answer_of k) (stack_in old) (state_in rest old)) →
    KeepsFrom from old new
ask_kept from old new o k moved is asks levels goes = ask_after from old old new o k refl moved is asks (λ x. x) levels goes

-- the memory changes, and then the mode
pub memory_kept : (from : Program → State → flat.Config) (old mid new : Machine) (x : Mode) → (let m : Machine = record old { memory = mid.memory } in mid ≡ m) → (let m : Machine = record mid { mode = x } in new ≡ m) →
    mid.memory.copies ≡ old.memory.copies →
    ((p : Program) (rest : State) → ReadsOf p rest old → ReadsOf p rest mid) →
    (Named (nesting_of old.memory) None (reverse old.stack.items) → ModeInOrder (nesting_of old.memory) x (reverse old.stack.items)) →
    ((tree : ℕ → Body) (p : Program) (rest : State) → IsCodeOf (code_in old) p tree → FitsIn p rest begun_mode old → (ans : List Answer) →
    flat.means tree p (from p (state_in rest old)) ans ≡ flat.means tree p (flat.config (mode_of old.code.instrs.items old.memory.copies x) (stack_in old) (state_in rest mid)) ans) →
    KeepsFrom from old new
memory_kept from old mid new x moved to copies reads order same =
    let m : Machine = record old { mode = x; memory = mid.memory } in
    let new_is : new ≡ m = to ∙ ap (λ (n : Machine). record n { mode = x }) moved in
    subst (λ (n : Machine). KeepsFrom from old n) (sym new_is)
    (from_kept from old m refl copies
    (λ p rest r. let q = subst (λ (n : Machine). ReadsOf p rest n) moved (reads p rest r) in record { forms = q.forms; even = q.even; status_is = q.status_is; returned_is = q.returned_is })
    (λ p rest f. order f.order)
    (λ tree p rest is f ans. same tree p rest is f ans
    ∙ ap (λ (n : Machine). flat.means tree p (flat.config (mode_of old.code.instrs.items old.memory.copies x) (stack_in old) (state_in rest n)) ans) moved
    ∙ ap (λ (cs : List Copy). flat.means tree p (flat.config (mode_of old.code.instrs.items cs x) (stack_of old.code.instrs.items cs (reverse old.stack.items)) (state_of rest old.procedures.items mid.memory old.units)) ans) (sym copies)))

-- ---- tasks, entries and answers, by their parts

pub task_from : (t : ChangeTask) (from : Program → State → flat.Config) (old new : Machine) →
    ((tree : ℕ → Body) (p : Program) (rest : State) → IsCodeOf (code_in old) p tree → FitsIn p rest begun_mode old → (ans : List Answer) →
    flat.means tree p (flat.config (flat.Execute (change_task_of old.code.instrs.items t)) (stack_in old) (state_in rest old)) ans ≡ flat.means tree p (from p (state_in rest old)) ans) →
    KeepsFrom from old new → KeepsTask (task.Change t) old new
task_from t from old new same kept = λ tree p rest is f.
    let g : FitsIn p rest begun_mode old = record { program = f.program; state = f.state; even = f.even; whole = f.whole; order = f.order } in
    let k = kept tree p rest is g in
    record { rest = k.rest; code = k.code; fits = k.fits; more = k.more; has = k.has; same = λ ans. same tree p rest is g ans ∙ k.same ans }

-- one step of the machine of flat_machine
pub task_step_from : (t : ChangeTask) (from : Program → State → flat.Config) (old new : Machine) →
    ((p : Program) (s : State) → flat.task_step (code_in old) p (change_task_of old.code.instrs.items t) (stack_in old) s ≡ from p s) →
    KeepsFrom from old new → KeepsTask (task.Change t) old new
task_step_from t from old new steps kept =
    task_from t from old new (λ tree p rest is f ans.
    step_means (code_in old) tree p is (flat.config (flat.Execute (change_task_of old.code.instrs.items t)) (stack_in old) (state_in rest old)) ans
    ∙ ap (λ c. flat.means tree p c ans) (steps p (state_in rest old))) kept

pub answer_from : (o : Op) (k : ChangeAnswer) (a : Answer) (from : Program → State → flat.Config) (old new : Machine) → IsOfAnswerClass answer_class.Done a →
    ((p : Program) (s : State) → flat.answer_step p (change_answer_of k) a (stack_in old) s ≡ from p s) →
    KeepsFrom from old new → KeepsAnswer o (on_answer.Change k) a old new
answer_from o k a from old new class steps kept = λ tree p rest is f.
    let g : FitsIn p rest begun_mode old = record { program = f.program; state = f.state; even = f.even; whole = f.whole; order = (tt, f.order.1) } in
    let r = kept tree p rest is g in
    let s = state_in rest old in
    record {
      rest = r.rest;
      code = r.code;
      fits = r.fits;
      more = r.more;
      has = r.has;
      same = λ ans.
          answered_means tree p a o (change_answer_of k) (stack_in old) s ans
          ∙ ap (λ c. flat.means tree p c ans) (class p o (change_answer_of k) (stack_in old) s ∙ steps p s)
          ∙ r.same ans;
    }

-- a part of a step after another one, which changed the memory and the stack
pub after_kept : (from : Program → State → flat.Config) (next : Machine → Program → State → flat.Config) (old mid new : Machine) → (let m : Machine = record old { stack = mid.stack; memory = mid.memory } in mid ≡ m) →
    mid.memory.copies ≡ old.memory.copies →
    ((p : Program) (rest : State) → ReadsOf p rest old → ReadsOf p rest mid) →
    (InOrder (nesting_of old.memory) (reverse old.stack.items) → InOrder (nesting_of old.memory) (reverse mid.stack.items)) →
    ((tree : ℕ → Body) (p : Program) (rest : State) → IsCodeOf (code_in old) p tree → FitsIn p rest begun_mode old → (ans : List Answer) → flat.means tree p (from p (state_in rest old)) ans ≡ flat.means tree p (next mid p (state_in rest mid)) ans) →
    KeepsFrom (next mid) mid new → KeepsFrom from old new
after_kept from next old mid new moved copies reads order same kept =
    let m : Machine = record old { stack = mid.stack; memory = mid.memory } in
    let kept_so = subst (λ (x : Machine). KeepsFrom (next x) x new) moved kept in
    let same_so = subst (λ (x : Machine). (tree : ℕ → Body) (p : Program) (rest : State) → IsCodeOf (code_in old) p tree → FitsIn p rest begun_mode old → (ans : List Answer) → flat.means tree p (from p (state_in rest old)) ans ≡ flat.means tree p (next x p (state_in rest x)) ans) moved same in
    λ tree p rest is f.
    let q = subst (λ (x : Machine). ReadsOf p rest x) moved (reads p rest (reads_of p rest begun_mode old f)) in
    let g : FitsIn p rest begun_mode m = record {
      program = f.program;
      state = f.state;
      even = q.even;
      whole = subst (λ (cs : List Copy). HaveDepths 0 cs) (sym copies) f.whole;
      order = (tt, subst (λ (n : Nesting). InOrder n (reverse mid.stack.items)) (sym (same_nesting old.memory mid.memory (sym q.even.0 ∙ f.even.0) copies)) (order f.order.1));
    } in
    let k = kept_so tree p rest is g in
    record { rest = k.rest; code = k.code; fits = k.fits; more = k.more; has = k.has; same = λ ans. same_so tree p rest is f ans ∙ k.same ans }

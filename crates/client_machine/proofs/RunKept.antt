-- The invariant of a run is preserved from one mode to the next.
use Rattle.std.proofs.Common.{◌≤◌, ◌<◌, length, ◌≡◌, ◌⊎◌, Bool, ℕ, List, [], ◌∷◌, ◌++◌, Some, sym, ap, ◌∙◌, subst}
use Rattle.std.specs.Prelude.{Result, Ok, Err, OnOk, IfOk, IfSome, Option, None, reverse, slice_get}
use Rattle.database_protocol.specs.declared.answer.Answer.{Answer}
use Rattle.database_protocol.specs.declared.operation.Op.{Op}
use Rattle.database_protocol.specs.declared.operation.Op.TheVariants as op
use Rattle.bound_tree.specs.Tree.{Body, Header}
use Rattle.database_protocol.specs.declared.next_step.NextStep.TheVariants.{Ask}
use Rattle.block_meaning.specs.State.{State, Copy, Progress, Turn, Done, and_then}
use Rattle.block_meaning.specs.Program.{Program}
use Rattle.block_meaning.specs.Meaning.{finished}
use Rattle.flat_machine.specs.Flat as flat
use Rattle.flat_machine.specs.Flat.{IsCodeOf}
use Rattle.flat_machine.proofs.Machine.{asks_means, step_means}
use Rattle.block_meaning.proofs.Continues.{begins_itself}
use Rattle.std.proofs.lemmas.List.{reverse-append}
use Rattle.client_machine.specs.declared.machine.Machine.{Machine}
use Rattle.client_machine.specs.declared.mode.Mode.{Mode}
use Rattle.client_machine.specs.declared.mode.Mode.TheVariants as mode
use Rattle.client_machine.specs.declared.mode.Task.{Task}
use Rattle.client_machine.specs.declared.mode.Completion.{Completion}
use Rattle.client_machine.specs.declared.mode.Completion.TheVariants as completion
use Rattle.database_protocol.specs.declared.ends.StopWhy.TheVariants as why
use Rattle.client_machine.proofs.Orders.{ask_order}
use Rattle.client_machine.proofs.Nestings.{level_count}
use Rattle.block_meaning.specs.Blocks.{retry_in, closes, after_iteration}
use Rattle.block_meaning.specs.Buffers.{releases_all}
use Rattle.client_machine.specs.declared.mode.OnAnswer.{OnAnswer}
use Rattle.client_machine.specs.declared.mode.OnAnswer.TheVariants as on_answer
use Rattle.client_machine.specs.declared.mode.ends.EndAnswer.TheVariants as end_answer
use Rattle.block_code.specs.declared.code.Instr.{Instr}
use Rattle.client_machine.specs.declared.mode.Task.TheVariants as task
use Rattle.block_meaning.specs.State as state
use Rattle.block_meaning.specs.Blocks as blocks
use Rattle.client_machine.specs.Config.{instr_or, instr_at, mode_of, task_of, completion_of, on_answer_of, AreEven}
use Rattle.block_code.specs.Code.{instr_of, header_in, body_in}
use Rattle.client_machine.specs.Machine.{config_of, stack_in, state_in}
use Rattle.client_machine.specs.Order.{Nesting, nesting_of, InOrder, HaveDepths, IsNotOnLevels, IsLeave, IsAskedFor, AskingInOrder, ModeInOrder, TaskInOrder, CompletesInOrder}
use Rattle.client_machine.proofs.Fits.{refits, refit, same_code, has_same}
use Rattle.client_machine.specs.Step.{code_in, FitsIn, RunKept, KeepsRun, KeepsTask, KeepsCompletion, NextStepIs, IsOfOpenLevels, AsksOpenLevels}

pub on_ok : {A E : Type 0} {P Q : Type 0} (r : Result A E) → (P → Q) → OnOk r P → OnOk r Q
on_ok (Ok x) f p = f p
on_ok (Err e) f p = p

pub on_two : {A E : Type 0} {P Q S : Type 0} (r : Result A E) → (P → Q → S) → OnOk r P → OnOk r Q → OnOk r S
on_two (Ok x) f p q = f p q
on_two (Err e) f p q = p

pub on_three : {A E : Type 0} {P Q R S : Type 0} (r : Result A E) → (P → Q → R → S) → OnOk r P → OnOk r Q → OnOk r R → OnOk r S
on_three (Ok x) f p q s = f p q s
on_three (Err e) f p q s = p

pub if_ok : {A E : Type 0} {P Q : A → Type 0} (r : Result A E) → ((x : A) → P x → Q x) → IfOk r P → IfOk r Q
if_ok (Ok x) f p = f x p
if_ok (Err e) f p = p

pub if_some : {A : Type 0} {P Q : A → Type 0} (r : Option A) → ((x : A) → P x → Q x) → IfSome r P → IfSome r Q
if_some (Some x) f p = f x p
if_some None f p = p

rekept : (tree : ℕ → Body) (p : Program) (c : flat.Config) (rest : State) (x : Mode) (old new : Machine) → RunKept tree p c [] rest.written (record old { mode = x }) new → RunKept tree p c [] rest.written old new
rekept tree p c rest x old new k = record { rest = k.rest; code = k.code; fits = k.fits; more = k.more; has = k.has; same = k.same }

pub execute_keeps : (task : Task) (x : Mode) (old new : Machine) → mode.Execute task ≡ old.mode → KeepsTask task (record old { mode = x }) new → KeepsRun [] old new
execute_keeps task x old new e task_kept = λ tree p rest is fits.
    subst (λ m. RunKept tree p (flat.config (mode_of old.code.instrs.items old.memory.copies m) (stack_in old) (state_in rest old)) [] rest.written old new) e
    (rekept tree p (flat.config (mode_of old.code.instrs.items old.memory.copies (mode.Execute task)) (stack_in old) (state_in rest old)) rest x old new
    (task_kept tree p rest is (refit p rest (mode.Execute task) x old (subst (λ m. FitsIn p rest m old) (sym e) fits))))

pub unwind_keeps : (completion : Completion) (x : Mode) (old new : Machine) → mode.Unwind completion ≡ old.mode → KeepsCompletion completion (record old { mode = x }) new → KeepsRun [] old new
unwind_keeps completion x old new e task_kept = λ tree p rest is fits.
    subst (λ m. RunKept tree p (flat.config (mode_of old.code.instrs.items old.memory.copies m) (stack_in old) (state_in rest old)) [] rest.written old new) e
    (rekept tree p (flat.config (mode_of old.code.instrs.items old.memory.copies (mode.Unwind completion)) (stack_in old) (state_in rest old)) rest x old new
    (task_kept tree p rest is (refit p rest (mode.Unwind completion) x old (subst (λ m. FitsIn p rest m old) (sym e) fits))))

-- ---- the operation that is asked

shows_by : (op : Op) (k : OnAnswer) (m : Machine) (x : Mode) → x ≡ mode.Await op k → (tree : ℕ → Body) (p : Program) (rest : State) →
    finished (flat.means tree p (flat.config (mode_of m.code.instrs.items m.memory.copies x) (stack_in m) (state_in rest m)) []) ≡ (let d : Progress = record { written = rest.written; wants = Ask op } in d)
shows_by op k m x e tree p rest =
    ap (λ x. finished (flat.means tree p (flat.config (mode_of m.code.instrs.items m.memory.copies x) (stack_in m) (state_in rest m)) [])) e
    ∙ ap finished (asks_means tree p op (on_answer_of m.code.instrs.items m.memory.copies op k) (stack_in m) (state_in rest m))

pub shows_asked : (op : Op) (k : OnAnswer) (m : Machine) → m.mode ≡ mode.Await op k → NextStepIs (Ask op) m
shows_asked op k m e = λ tree p rest f. shows_by op k m m.mode e tree p rest

-- an operation that is not on levels fits any number of open levels
names_no_level : (n : ℕ) (o : Op) → IsNotOnLevels o → IsOfOpenLevels n (Ask o)
names_no_level n op.Enter x = tt
names_no_level n (op.Leave keep) x = absurd x
names_no_level n (op.Back depth) x = absurd x
names_no_level n (op.Next table index prefix cursor forward) x = tt
names_no_level n (op.Get table row) x = tt
names_no_level n (op.Lock table row exclusive wait) x = tt
names_no_level n (op.Insert table values) x = tt
names_no_level n (op.Put table row values) x = tt
names_no_level n (op.Delete table row) x = tt
names_no_level n (op.Drop row) x = tt
names_no_level n (op.NextValue sequence) x = tt
names_no_level n (op.CurrentValue sequence) x = tt
names_no_level n op.End x = tt

leaves_level : (n : ℕ) (o : Op) → IsLeave o → 0 < n → IsOfOpenLevels n (Ask o)
leaves_level n (op.Leave keep) x lt = lt
leaves_level n op.Enter x lt = absurd x
leaves_level n (op.Back depth) x lt = absurd x
leaves_level n (op.Next table index prefix cursor forward) x lt = absurd x
leaves_level n (op.Get table row) x lt = absurd x
leaves_level n (op.Lock table row exclusive wait) x lt = absurd x
leaves_level n (op.Insert table values) x lt = absurd x
leaves_level n (op.Put table row values) x lt = absurd x
leaves_level n (op.Delete table row) x lt = absurd x
leaves_level n (op.Drop row) x lt = absurd x
leaves_level n (op.NextValue sequence) x lt = absurd x
leaves_level n (op.CurrentValue sequence) x lt = absurd x
leaves_level n op.End x lt = absurd x

back_level : (o : Op) (depth : ℕ) (m : Machine) → o ≡ op.Back depth → (0 < depth) × (depth ≤ length (nesting_of m.memory).levels) → IsOfOpenLevels (length m.memory.copies) (Ask o)
back_level o depth m e own = subst (λ (o : Op). IsOfOpenLevels (length m.memory.copies) (Ask o)) (sym e) (own.0, subst (λ n. depth ≤ n) (level_count m.memory) own.1)

levels_by : (o : Op) (k : OnAnswer) (m : Machine) → IsAskedFor k o → AskingInOrder (nesting_of m.memory) k (reverse m.stack.items) → IsOfOpenLevels (length m.memory.copies) (Ask o)
levels_by o (on_answer.WasEntered k t retry d) m asked x = subst (λ (o : Op). IsOfOpenLevels (length m.memory.copies) (Ask o)) (sym asked) tt
levels_by o (on_answer.WasBack depth) m asked x = back_level o depth m asked (x.0.0, x.0.1)
levels_by o on_answer.WasLeft m asked x = leaves_level (length m.memory.copies) o asked (subst (λ n. 0 < n) (level_count m.memory) x.0)
levels_by o (on_answer.End (end_answer.WasInserted at made)) m asked x = names_no_level (length m.memory.copies) o asked
levels_by o (on_answer.End end_answer.WasDropped) m asked x = names_no_level (length m.memory.copies) o asked
levels_by o (on_answer.End (end_answer.WasBack depth but)) m asked x = back_level o depth m asked (x.0.0, x.0.1)
levels_by o (on_answer.End (end_answer.WasGot at row held made)) m asked x = names_no_level (length m.memory.copies) o asked
levels_by o (on_answer.Read k) m asked x = names_no_level (length m.memory.copies) o asked
levels_by o (on_answer.Change k) m asked x = names_no_level (length m.memory.copies) o asked

pub asks_open_levels : (o : Op) (k : OnAnswer) (m : Machine) → m.mode ≡ mode.Await o k → AsksOpenLevels (Ask o) m
asks_open_levels o k m e = λ p rest f. let x = subst (λ x. ModeInOrder (nesting_of m.memory) x (reverse m.stack.items)) e f.order in levels_by o k m x.0 x.1

-- ---- a task, by the step of the machine

pub task_kept_same : (task : Task) (old new : Machine) → (let m : Machine = record old { mode = new.mode; stack = new.stack; units = new.units } in new ≡ m) →
    (TaskInOrder (nesting_of old.memory) task (reverse old.stack.items) → ModeInOrder (nesting_of old.memory) new.mode (reverse new.stack.items)) →
    ((tree : ℕ → Body) (p : Program) (rest : State) → IsCodeOf (code_in old) p tree → FitsIn p rest (mode.Execute task) old → (ans : List Answer) → flat.means tree p (flat.config (flat.Execute (task_of old.code.instrs.items old.memory.copies task)) (stack_in old) (state_in rest old)) ans ≡ flat.means tree p (config_of rest new) ans) →
    KeepsTask task old new
task_kept_same task old new moved order means_same = λ tree p rest is f.
    let moved' = moved ∙ ap (λ k. record old { mode = new.mode; stack = new.stack; units = new.units; memory = k }) (sym (ap (λ (m : Machine). m.memory) moved)) in
    record {
      rest = rest;
      code = same_code old new moved';
      fits = refits p rest (mode.Execute task) new.mode old new moved' f
          (subst (λ (m : Machine). AreEven m.procedures.items m.memory) (sym moved) f.even)
          (subst (λ (m : Machine). HaveDepths 0 m.memory.copies) (sym moved) f.whole)
          (subst (λ (m : Machine). ModeInOrder (nesting_of m.memory) new.mode (reverse new.stack.items)) (sym moved) (order f.order));
      more = begins_itself rest.written;
      has = has_same old new rest.written moved';
      same = means_same tree p rest is f;
    }

pub task_kept : (task : Task) (old new : Machine) → (let m : Machine = record old { mode = new.mode; stack = new.stack; units = new.units } in new ≡ m) →
    (TaskInOrder (nesting_of old.memory) task (reverse old.stack.items) → ModeInOrder (nesting_of old.memory) new.mode (reverse new.stack.items)) →
    ((tree : ℕ → Body) (p : Program) (rest : State) → FitsIn p rest (mode.Execute task) old → config_of rest new ≡ flat.task_step (code_in old) p (task_of old.code.instrs.items old.memory.copies task) (stack_in old) (state_in rest old)) →
    KeepsTask task old new
task_kept task old new moved order steps =
    task_kept_same task old new moved order (λ tree p rest is f ans.
    step_means (code_in old) tree p is (flat.config (flat.Execute (task_of old.code.instrs.items old.memory.copies task)) (stack_in old) (state_in rest old)) ans ∙ ap (λ c. flat.means tree p c ans) (sym (steps tree p rest f)))

pub completion_kept : (completion : Completion) (old new : Machine) → (let m : Machine = record old { mode = new.mode; stack = new.stack; units = new.units } in new ≡ m) →
    (CompletesInOrder (nesting_of old.memory) completion (reverse old.stack.items) → ModeInOrder (nesting_of old.memory) new.mode (reverse new.stack.items)) →
    ((p : Program) (rest : State) → config_of rest new ≡ flat.over_step p (stack_in old) (completion_of old.code.instrs.items old.memory.copies completion) (state_in rest old)) →
    KeepsCompletion completion old new
completion_kept completion old new moved order steps = λ tree p rest is f.
    let moved' = moved ∙ ap (λ k. record old { mode = new.mode; stack = new.stack; units = new.units; memory = k }) (sym (ap (λ (m : Machine). m.memory) moved)) in
    record {
      rest = rest;
      code = same_code old new moved';
      fits = refits p rest (mode.Unwind completion) new.mode old new moved' f
          (subst (λ (m : Machine). AreEven m.procedures.items m.memory) (sym moved) f.even)
          (subst (λ (m : Machine). HaveDepths 0 m.memory.copies) (sym moved) f.whole)
          (subst (λ (m : Machine). ModeInOrder (nesting_of m.memory) new.mode (reverse new.stack.items)) (sym moved) (order f.order));
      more = begins_itself rest.written;
      has = has_same old new rest.written moved';
      same = λ ans. step_means (code_in old) tree p is (flat.config (flat.Unwind (completion_of old.code.instrs.items old.memory.copies completion)) (stack_in old) (state_in rest old)) ans ∙ ap (λ c. flat.means tree p c ans) (sym (steps p rest));
    }

-- ---- an entry more

pub pushed : {A : Type 0} (xs ys : List A) (x : A) → ys ≡ xs ++ x ∷ [] → reverse ys ≡ x ∷ reverse xs
pushed xs ys x e = ap reverse e ∙ reverse-append xs (x ∷ [])

-- where the task may request an operation
pub task_kept_ask : (task : Task) (op : Op) (k : OnAnswer) (old new : Machine) → (let m : Machine = record old { mode = new.mode; units = new.units } in new ≡ m) → (new.mode ≡ mode.Await op k) ⊎ (new.mode ≡ mode.Unwind (completion.Stops why.Budget)) →
    IsAskedFor k op →
    (TaskInOrder (nesting_of old.memory) task (reverse old.stack.items) → AskingInOrder (nesting_of old.memory) k (reverse old.stack.items)) →
    ((tree : ℕ → Body) (p : Program) (rest : State) → FitsIn p rest (mode.Execute task) old → config_of rest new ≡ flat.task_step (code_in old) p (task_of old.code.instrs.items old.memory.copies task) (stack_in old) (state_in rest old)) →
    KeepsTask task old new
task_kept_ask task op k old new moved is asked order steps =
    let same : new.stack ≡ old.stack = ap (λ (m : Machine). m.stack) moved in
    task_kept task old new (moved ∙ ap (λ o. record old { mode = new.mode; stack = o; units = new.units }) (sym same))
    (λ x. ask_order (nesting_of old.memory) op k new.mode (reverse new.stack.items) is asked (subst (λ o. AskingInOrder (nesting_of old.memory) k (reverse o.items)) (sym same) (order x))) steps

-- a turn
pub task_kept_turn : (task : Task) (old new : Machine) → (let m : Machine = record old { mode = new.mode; stack = new.stack } in new ≡ m) →
    (TaskInOrder (nesting_of old.memory) task (reverse old.stack.items) → ModeInOrder (nesting_of old.memory) new.mode (reverse new.stack.items)) →
    ((tree : ℕ → Body) (p : Program) (rest : State) → FitsIn p rest (mode.Execute task) old → config_of rest new ≡ flat.task_step (code_in old) p (task_of old.code.instrs.items old.memory.copies task) (stack_in old) (state_in rest old)) →
    KeepsTask task old new
task_kept_turn task old new moved order steps = task_kept task old new (moved ∙ ap (λ u. record old { mode = new.mode; stack = new.stack; units = u }) (sym (ap (λ (m : Machine). m.units) moved))) order steps

-- ---- an instruction

pub instr_is : (code : List Instr) (k : ℕ) (i : Instr) → slice_get code k ≡ Some i → instr_at code k ≡ instr_of i
instr_is code k i e = ap instr_or e

pub opens_is : (x : flat.Instr) (b : Header) (body next : ℕ) → x ≡ flat.Opens b body next → x ≡ flat.Opens (header_in x) (body_in x) next
opens_is x b body next e = e ∙ ap (λ y. flat.Opens (header_in y) (body_in y) next) (sym e)

pub runs_by : (old new : Machine) (place left : ℕ) (retry : Bool) (i : flat.Instr) → instr_at old.code.instrs.items place ≡ i →
    (let m : Machine = record old { mode = new.mode; stack = new.stack; units = new.units } in new ≡ m) →
    ((n : Nesting) → InOrder n (reverse old.stack.items) → ModeInOrder n new.mode (reverse new.stack.items)) →
    ((rest : State) (p : Program) → config_of rest new ≡ flat.instr_step p i left retry (stack_in old) (state_in rest old)) →
    KeepsTask (task.RunsFrom place left retry) old new
runs_by old new place left retry i e moved order steps =
    task_kept (task.RunsFrom place left retry) old new moved (λ o. order (nesting_of old.memory) o.1) (λ tree p rest f. steps rest p ∙ ap (λ x. flat.instr_step p x left retry (stack_in old) (state_in rest old)) (sym e))

-- ---- a block that is over

pub closes_over : (p : Program) (b : Header) (o : blocks.Iteration) (w : state.Completion) (s : State) (ans : List Answer) → b.scoped ≡ [] → closes p b o w s ans ≡ Done (after_iteration b o w) s ans
closes_over p b o w s ans none = ap (λ bs. and_then (releases_all p bs s ans) (state.completes (after_iteration b o w))) none

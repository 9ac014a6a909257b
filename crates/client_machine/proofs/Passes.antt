-- ERROR and ENDKEY arrive at an iteration.
use Rattle.std.proofs.Common.{◌≡◌, ℕ, List, ◌∷◌, length, Option, Some, None, Bool, true, false, refl, sym, ap, ◌∙◌, subst, arith}
use Rattle.std.specs.Prelude.{◌==◌, reverse}
use Rattle.database_protocol.specs.declared.answer.Answer.{Answer}
use Rattle.bound_tree.specs.Tree.{Body, Header, Action, ThenLeave, OnPhrase}
use Rattle.block_meaning.specs.Program.{Program}
use Rattle.block_meaning.specs.State.{State, Passed, Continuation, Completion, Raises, EndKeys, Undoes, Done, if_else, completes, and_then}
use Rattle.block_meaning.specs.Buffers.{releases_all}
use Rattle.block_meaning.specs.Blocks.{Iteration, passed_with, passes, undo_comes, undone, error_comes, error_to, endkey_to, handles_endkey}
use Rattle.flat_machine.specs.Flat as flat
use Rattle.flat_machine.specs.Flat.{means, config, after_stack}
use Rattle.client_machine.specs.declared.machine.Machine.{Machine}
use Rattle.client_machine.specs.declared.mode.Completion.{Completion as MyCompletion}
use Rattle.client_machine.specs.declared.mode.IterationData.{IterationData}
use Rattle.client_machine.specs.declared.mode.StackEntry.{StackEntry}
use Rattle.client_machine.specs.declared.mode.Task.{Task}
use Rattle.client_machine.specs.Actions.{error_phrase, endkey_phrase, leave_if}
use Rattle.client_machine.specs.Config.{header_at, task_of, completion_of}
use Rattle.client_machine.specs.Machine.{config_of, stack_in, state_in}
use Rattle.client_machine.specs.Order.{Nesting, outer_of, nesting_of, first_in, InOrder, Named, ModeInOrder, TaskInOrder}
use Rattle.client_machine.specs.Step.{KeepsTask}
use Rattle.client_machine.proofs.Orders.{passes_named, passes_none}
use Rattle.client_machine.proofs.Nestings.{level_count}
use Rattle.client_machine.proofs.RunKept.{task_kept_same}
use Rattle.client_memory.specs.Memory.{Remembered}
use Rattle.client_machine.specs.declared.mode.StackEntry.TheVariants as stack

-- ---- a block that is passed

none_named : (n : Nesting) (y : Option ℕ) (ks : List StackEntry) → length n.levels ≡ 0 → Named n y ks → (y ≡ None) × InOrder n ks
none_named n None ks none o = (refl, o.1)
none_named n (Some d) ks none o = absurd (omega (arith, none, o.0.0, o.0.1))

-- with no level open none is passed
pub none_is_passed : (m : Remembered) (k : ℕ) (o : IterationData) (y : Option ℕ) (ks : List StackEntry) → length m.copies ≡ 0 → Named (nesting_of m) y (stack.In k o ∷ ks) → (y ≡ None) × InOrder (nesting_of m) ks
none_is_passed m k o y ks none named =
    let empty : length (nesting_of m).levels ≡ 0 = level_count m ∙ none in
    none_named (nesting_of m) y ks empty (passes_none (nesting_of m) k o y ks empty named)

-- the iteration is passed with a level open
pub outer_named : (n : Nesting) (k : ℕ) (o : IterationData) (x y : Option ℕ) (ks : List StackEntry) → x ≡ outer_of o.depth y → Named n y (stack.In k o ∷ ks) → Named n x ks
outer_named n k o x y ks e named = subst (λ z. Named n z ks) (sym e) (passes_named n k o y ks named)

pub passes_ended : (p : Program) (b : Header) (ended left : Completion) (s : State) (ans : List Answer) → (s.level == 0) ≡ true → passes p b ended left s ans ≡ and_then (releases_all p b.scoped s ans) (completes ended)
passes_ended p b ended left s ans e = ap (λ x. if_else x (λ s ans. and_then (releases_all p b.scoped s ans) (completes ended)) (completes left) s ans) e

pub passes_left : (p : Program) (b : Header) (ended left : Completion) (s : State) (ans : List Answer) → (s.level == 0) ≡ false → passes p b ended left s ans ≡ Done left s ans
passes_left p b ended left s ans e = ap (λ x. if_else x (λ s ans. and_then (releases_all p b.scoped s ans) (completes ended)) (completes left) s ans) e

-- a task that ends the iteration of the block at a place so
pub ended_kept : (t : Task) (w : MyCompletion) (place : ℕ) (old new : Machine) → (let m : Machine = record old { mode = new.mode; stack = new.stack } in new ≡ m) →
    ((n : Nesting) → first_in w ≡ None → InOrder n (reverse old.stack.items) → ModeInOrder n new.mode (reverse new.stack.items)) →
    ((tree : ℕ → Body) (p : Program) (rest : State) (ans : List Answer) → means tree p (config_of rest new) ans ≡ means tree p (config (flat.Execute (flat.Releases (header_at old.code.instrs.items place).scoped)) (flat.ThenDo (flat.Completes (completion_of old.code.instrs.items old.memory.copies w)) ∷ stack_in old) (state_in rest old)) ans) →
    (TaskInOrder (nesting_of old.memory) t (reverse old.stack.items) → (first_in w ≡ None) × InOrder (nesting_of old.memory) (reverse old.stack.items)) →
    ((tree : ℕ → Body) (p : Program) (s : State) (ans : List Answer) → s.level ≡ length old.memory.copies → flat.task_means tree p (task_of old.code.instrs.items old.memory.copies t) s ans ≡ and_then (releases_all p (header_at old.code.instrs.items place).scoped s ans) (completes (completion_of old.code.instrs.items old.memory.copies w))) →
    KeepsTask t old new
ended_kept t w place old new moved order same named task_is =
    task_kept_same t old new (moved ∙ ap (λ u. record old { mode = new.mode; stack = new.stack; units = u }) (sym (ap (λ (m : Machine). m.units) moved)))
    (λ o. let x = named o in order (nesting_of old.memory) x.0 x.1)
    (λ tree p rest is f ans. ap (after_stack tree p (stack_in old)) (task_is tree p (state_in rest old) ans refl) ∙ sym (same tree p rest ans))

-- ---- ERROR

error_is : (p : Program) (b : Header) (o : Iteration) (passed : Passed) (on : Option OnPhrase) (s : State) (ans : List Answer) → error_to p b o on passed s ans ≡ undo_comes p b o (error_phrase b on).target (error_phrase b on).action o.turn.retry passed s ans
error_is p b o passed None s ans = refl
error_is p b o passed (Some on) s ans = refl

pub error_undoes : (tree : ℕ → Body) (p : Program) (b : Header) (o : Iteration) (passed : Passed) (on : OnPhrase) (ks : List flat.StackEntry) (s : State) (ans : List Answer) → b.flags.undo ≡ true → on ≡ error_phrase b b.on_error →
    means tree p (config (flat.Execute (flat.EndsWith b o (Raises passed))) ks s) ans ≡ means tree p (config (flat.Execute (flat.UndoComes b o on.target on.action o.turn.retry passed)) ks s) ans
error_undoes tree p b o passed on ks s ans e is =
    ap (λ x. after_stack tree p ks (if_else x (error_to p b o b.on_error passed) (passes p b (Raises passed) (Raises (passed_with b o passed))) s ans)) e
    ∙ ap (after_stack tree p ks) (error_is p b o passed b.on_error s ans ∙ ap (λ (on : OnPhrase). undo_comes p b o on.target on.action o.turn.retry passed s ans) (sym is))

pub error_passes : (p : Program) (b : Header) (o : Iteration) (passed : Passed) (s : State) (ans : List Answer) → b.flags.undo ≡ false → error_comes p b o passed s ans ≡ passes p b (Raises passed) (Raises (passed_with b o passed)) s ans
error_passes p b o passed s ans e = ap (λ y. if_else y (error_to p b o b.on_error passed) (passes p b (Raises passed) (Raises (passed_with b o passed))) s ans) e

-- ---- ENDKEY

abbrev by_phrase : Program → Header → Iteration → Option OnPhrase → Passed → Continuation
by_phrase p b o None passed s ans = passes p b (EndKeys passed) (EndKeys (passed_with b o passed)) s ans
by_phrase p b o (Some on) passed s ans = undo_comes p b o on.target on.action o.turn.retry passed s ans

leave_is : (x : Bool) (p : Program) (b : Header) (o : Iteration) (passed : Passed) (s : State) (ans : List Answer) →
    if_else x (undo_comes p b o b.number (ThenLeave b.number) o.turn.retry passed) (passes p b (EndKeys passed) (EndKeys (passed_with b o passed))) s ans ≡ by_phrase p b o (leave_if x b) passed s ans
leave_is true p b o passed s ans = refl
leave_is false p b o passed s ans = refl

endkey_is : (p : Program) (b : Header) (o : Iteration) (passed : Passed) (on : Option OnPhrase) (s : State) (ans : List Answer) → endkey_to p b o on passed s ans ≡ by_phrase p b o (endkey_phrase b on) passed s ans
endkey_is p b o passed None s ans = leave_is (handles_endkey b) p b o passed s ans
endkey_is p b o passed (Some on) s ans = refl

pub endkey_undoes : (tree : ℕ → Body) (p : Program) (b : Header) (o : Iteration) (passed : Passed) (on : OnPhrase) (ks : List flat.StackEntry) (s : State) (ans : List Answer) → endkey_phrase b b.on_endkey ≡ Some on →
    means tree p (config (flat.Execute (flat.EndsWith b o (EndKeys passed))) ks s) ans ≡ means tree p (config (flat.Execute (flat.UndoComes b o on.target on.action o.turn.retry passed)) ks s) ans
endkey_undoes tree p b o passed on ks s ans e = ap (after_stack tree p ks) (endkey_is p b o passed b.on_endkey s ans ∙ ap (λ x. by_phrase p b o x passed s ans) e)

pub endkey_passes : (p : Program) (b : Header) (o : Iteration) (passed : Passed) (s : State) (ans : List Answer) → endkey_phrase b b.on_endkey ≡ None → endkey_to p b o b.on_endkey passed s ans ≡ passes p b (EndKeys passed) (EndKeys (passed_with b o passed)) s ans
endkey_passes p b o passed s ans e = endkey_is p b o passed b.on_endkey s ans ∙ ap (λ y. by_phrase p b o y passed s ans) e

-- ---- UNDO

pub undo_passes : (p : Program) (b : Header) (o : Iteration) (target : ℕ) (act : Action) (retry : Bool) (passed : Passed) (s : State) (ans : List Answer) → (target == b.number) ≡ false →
    undo_comes p b o target act retry passed s ans ≡ passes p b (Undoes target act retry passed) (Undoes target act retry (passed_with b o passed)) s ans
undo_passes p b o target act retry passed s ans e =
    ap (λ x. if_else x (undone p b o act retry (passed_with b o passed)) (passes p b (Undoes target act retry passed) (Undoes target act retry (passed_with b o passed))) s ans) e

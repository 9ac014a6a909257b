-- The closing of an iteration.
use Rattle.std.proofs.Common.{◌≡◌, ℕ, zero, suc, ◌+◌, ◌-◌, List, [], ◌∷◌, Option, Some, None, Bool, true, false, refl, sym, ap, ◌∙◌, subst, arith}
use Rattle.std.specs.Prelude.{reverse, slice_index_or}
use Rattle.database_protocol.specs.declared.operation.Op.{Op}
use Rattle.database_protocol.specs.declared.operation.Op.TheVariants as op
use Rattle.database_protocol.specs.declared.answer.Answer.{Answer}
use Rattle.database_protocol.specs.declared.answer.Answer.TheVariants as answer
use Rattle.bound_tree.specs.Tree.{Body, Header}
use Rattle.block_meaning.specs.declared.wants.Piece.{Piece}
use Rattle.block_meaning.specs.Program.{Program}
use Rattle.block_meaning.specs.Lines.{Complaint}
use Rattle.block_meaning.specs.State.{State, Copy, Completion, Normal, Again, Leaves, Nexts, Undoes, Faults, Raises, EndKeys, Returns, Stops, Found, Lost, NotFound, Completed, Done, nothing_passed, completes, awaits, costs_unit_of, and_then, written_if}
use Rattle.block_meaning.specs.Buffers.{keep_of, was_left}
use Rattle.block_meaning.specs.Blocks.{Iteration, after_iteration, after_closing, complained, line_piece, ends, error_comes}
use Rattle.flat_machine.specs.Flat as flat
use Rattle.flat_machine.specs.Flat.{means, config, after_stack}
use Rattle.client_memory.specs.Memory.{Remembered}
use Rattle.client_machine.specs.Config.{no_copy}
use Rattle.client_machine.specs.Order.{nesting_of, HaveDepths, IsOwn}
use Rattle.std.specs.Prelude.{Vec}
use Rattle.std.specs.declared.alloc.Global.{Global}
use Rattle.client_machine.specs.declared.machine.Machine.{Machine}
use Rattle.client_machine.specs.declared.mode.Completion.{Completion as MyCompletion}
use Rattle.client_machine.specs.declared.mode.Completion.TheVariants as completion
use Rattle.client_machine.specs.declared.mode.IterationData.{IterationData}
use Rattle.client_machine.specs.declared.mode.LineFault.{LineFault}
use Rattle.client_machine.specs.declared.mode.Mode.TheVariants as mode
use Rattle.client_machine.specs.declared.mode.StackEntry.{StackEntry}
use Rattle.client_machine.specs.declared.mode.StackEntry.TheVariants as stack
use Rattle.client_machine.specs.declared.mode.Task.TheVariants as task
use Rattle.client_machine.specs.declared.mode.ends.BufferList.TheVariants as buffer_list
use Rattle.client_machine.specs.declared.mode.ends.EndEntry.{EndEntry}
use Rattle.client_machine.specs.declared.mode.ends.EndEntry.TheVariants as end_entry
use Rattle.client_machine.specs.declared.mode.ends.EndTask.TheVariants as end_task
use Rattle.client_machine.specs.Config.{header_at, completion_of, complaint_if, iteration_of, stack_of}
use Rattle.client_machine.specs.Machine.{stack_in, state_in}
use Rattle.client_machine.specs.Order.{first_in, InOrder, LeavesInOrder, Nesting, TaskInOrder}
use Rattle.client_machine.specs.Step.{KeepsComplaint, KeepsEntry, KeepsTask}
use Rattle.client_ends.specs.Closings.{closed_of, completion_in}
use Rattle.client_machine.proofs.End.{closing_names}
use Rattle.client_machine.proofs.Orders.{closes_level}
use Rattle.client_machine.proofs.RunKept.{task_kept_same}
use Rattle.client_machine.proofs.Nestings.{depth_at, level_open}

-- ---- the level is left: nothing fails any more

leave_answered : (p : Program) (b : Header) (o : Iteration) (w : Completion) (x : Op) (s : State) (ans : List Answer) → after_closing p b o w (awaits x was_left s ans) ≡ and_then (awaits x was_left s ans) (completes (after_iteration b o w))
leave_answered p b o w x s [] = refl
leave_answered p b o w x s (answer.Blocked holders ∷ ans) = leave_answered p b o w x s ans
leave_answered p b o w x s (answer.NoMemory ∷ ans) = refl
leave_answered p b o w x s (answer.Closed ∷ ans) = refl
leave_answered p b o w x s (answer.Deadlock cycle ∷ ans) = refl
leave_answered p b o w x s (answer.TxFull ∷ ans) = refl
leave_answered p b o w x s (answer.TraceFull ∷ ans) = refl
leave_answered p b o w x s (a ∷ ans) = refl

leave_paid : (n : ℕ) (p : Program) (b : Header) (o : Iteration) (w : Completion) (x : Op) (s : State) (ans : List Answer) → after_closing p b o w (costs_unit_of n (awaits x was_left) s ans) ≡ and_then (costs_unit_of n (awaits x was_left) s ans) (completes (after_iteration b o w))
leave_paid zero p b o w x s ans = refl
leave_paid (suc n) p b o w x s ans = leave_answered p b o w x (record s { units = n }) ans

pub level_left_next : (tree : ℕ → Body) (p : Program) (b : Header) (o : Iteration) (w : Completion) (copy : Copy) (but : List ℕ) (ks : List flat.StackEntry) (s : State) (ans : List Answer) →
    means tree p (config (flat.Execute (flat.LeavesIf (Some copy) but)) (flat.AfterClosing b o w ∷ ks) s) ans ≡ means tree p (config (flat.Execute (flat.LeavesNow but)) (flat.ThenDo (flat.Completes (after_iteration b o w)) ∷ ks) s) ans
level_left_next tree p b o w copy but ks s ans = ap (after_stack tree p ks) (leave_paid s.units p b o w (op.Leave (keep_of but s)) s ans)

-- ---- the closing has failed: as ERROR in the body of the iteration

abbrev line_then_error : Program → Header → Iteration → Completed → List Answer → Type 0
line_then_error p b o x ans = and_then (Done x.completion x.state ans) (error_comes p b o nothing_passed) ≡ ends p b o (and_then (Done x.completion x.state ans) (completes (Raises nothing_passed)))

line_by : (full : Bool) (piece : Piece) (p : Program) (b : Header) (o : Iteration) (s : State) (ans : List Answer) → line_then_error p b o (written_if full piece s) ans
line_by true piece p b o s ans = refl
line_by false piece p b o s ans = refl

line_of_fault : (c : Option Complaint) (p : Program) (b : Header) (o : Iteration) (s : State) (ans : List Answer) → line_then_error p b o (complained p c s) ans
line_of_fault None p b o s ans = refl
line_of_fault (Some c) p b o s ans = line_by _ (line_piece p c s) p b o s ans

pub closing_fails : (tree : ℕ → Body) (p : Program) (b : Header) (o : Iteration) (w : Completion) (c : Option Complaint) (ks : List flat.StackEntry) (s : State) (ans : List Answer) →
    means tree p (config (flat.Unwind (Faults c)) (flat.AfterClosing b o w ∷ ks) s) ans ≡ means tree p (flat.errs_step (complained p c s) (flat.Completes (Raises nothing_passed)) (flat.In b o ∷ ks)) ans
closing_fails tree p b o w c ks s ans = ap (after_stack tree p ks) (line_of_fault c p b o s ans)

-- ---- the completion after an iteration does not depend on its level

abbrev without_copy : Iteration → Iteration
without_copy o = record { copy = None; turn = o.turn }

pub after_same : (b : Header) (o : Iteration) (w : Completion) → after_iteration b o w ≡ after_iteration b (without_copy o) w
after_same b o Normal = refl
after_same b o (Again t) = refl
after_same b o (Leaves l) = refl
after_same b o (Nexts l) = refl
after_same b o (Undoes l a r x) = refl
after_same b o (Faults c) = refl
after_same b o (Raises x) = refl
after_same b o (EndKeys x) = refl
after_same b o (Found c) = refl
after_same b o Lost = refl
after_same b o NotFound = refl
after_same b o (Returns e) = refl
after_same b o (Stops e) = refl

-- ---- the depth of a copy

pub level_depth : (m : Remembered) (d : ℕ) → HaveDepths 0 m.copies → IsOwn (nesting_of m) (Some d) → (slice_index_or m.copies (d - 1) no_copy).depth ≡ d
level_depth m d whole own =
    let low = level_open m d own in
    depth_at 0 m.copies (d - 1) whole (omega (arith, own.0, low)) ∙ (let e : 0 + (d - 1) + 1 ≡ d = omega (arith, own.0) in e)

-- ---- the level of an iteration is left

leaves_order : (n : Nesting) (d k closed : ℕ) (it : IterationData) (w w' : MyCompletion) (js : List StackEntry) → (first_in w ≡ None → first_in w' ≡ None) →
    TaskInOrder n (task.End (end_task.LeavesIf (Some d) k)) (stack.End (end_entry.AfterClosing closed it w) ∷ js) → LeavesInOrder n (stack.Then (task.Completes w') ∷ js)
leaves_order n d k closed it w w' js plain o = closes_level n closed d it completion.Normal w' js o.0.1 tt (plain (closing_names w o.1.0)) (tt, o.1.1)

leaves_by : (d k closed : ℕ) (it : IterationData) (w w' : MyCompletion) (old new : Machine) (more : Vec StackEntry Global) (js : List StackEntry) →
    (let x : Machine = record old { mode = mode.Execute (task.End (end_task.LeavesNow (buffer_list.Scoped k))); stack = more } in new ≡ x) →
    reverse old.stack.items ≡ stack.End (end_entry.AfterClosing closed it w) ∷ js → reverse more.items ≡ stack.Then (task.Completes w') ∷ js →
    ((cs : List Copy) → completion_of old.code.instrs.items cs w' ≡ after_iteration (header_at old.code.instrs.items closed) (iteration_of cs it) (completion_of old.code.instrs.items cs w)) →
    (first_in w ≡ None → first_in w' ≡ None) →
    KeepsTask (task.End (end_task.LeavesIf (Some d) k)) old new
leaves_by d k closed it w w' old new more js moved top entries same plain =
    let code = old.code.instrs.items in
    let cs = old.memory.copies in
    let n = nesting_of old.memory in
    let t = task.End (end_task.LeavesIf (Some d) k) in
    let x : Machine = record old { mode = mode.Execute (task.End (end_task.LeavesNow (buffer_list.Scoped k))); stack = more } in
    let copy = slice_index_or cs (d - 1) no_copy in
    let but = (header_at code k).scoped in
    subst (KeepsTask t old) (sym moved)
    (task_kept_same t old x refl
    (λ o. subst (LeavesInOrder n) (sym entries) (leaves_order n d k closed it w w' js plain (subst (TaskInOrder n t) top o)))
    (λ tree p rest is f ans.
    let s = state_in rest old in
    ap (λ (os : List StackEntry). means tree p (config (flat.Execute (flat.LeavesIf (Some copy) but)) (stack_of code cs os) s) ans) top
    ∙ level_left_next tree p (header_at code closed) (iteration_of cs it) (completion_of code cs w) copy but (stack_of code cs js) s ans
    ∙ ap (λ (v : Completion). means tree p (config (flat.Execute (flat.LeavesNow but)) (flat.ThenDo (flat.Completes v) ∷ stack_of code cs js) s) ans) (sym (same cs))
    ∙ ap (λ (os : List StackEntry). means tree p (config (flat.Execute (flat.LeavesNow but)) (stack_of code cs os) s) ans) (sym entries)))

pub leaves_level : (e : EndEntry) (d k : ℕ) (w' : MyCompletion) (old new : Machine) (more : Vec StackEntry Global) (js : List StackEntry) →
    (let x : Machine = record old { mode = mode.Execute (task.End (end_task.LeavesNow (buffer_list.Scoped k))); stack = more } in new ≡ x) →
    reverse old.stack.items ≡ stack.End e ∷ js → reverse more.items ≡ stack.Then (task.Completes w') ∷ js →
    ((cs : List Copy) → completion_of old.code.instrs.items cs w' ≡ closed_of old.code.instrs.items cs e) → (first_in (completion_in e) ≡ None → first_in w' ≡ None) →
    KeepsTask (task.End (end_task.LeavesIf (Some d) k)) old new
leaves_level (end_entry.AfterClosing closed it w) d k w' old new more js moved top entries same plain = leaves_by d k closed it w w' old new more js moved top entries same plain

-- ---- the closing has failed

pub closing_failed_kept : (k : ℕ) (it : IterationData) (w : MyCompletion) (fault : Option LineFault) (old new : Machine) (more : Vec StackEntry Global) → reverse more.items ≡ stack.In k it ∷ reverse old.stack.items →
    (let mid : Machine = record old { stack = more } in KeepsComplaint fault mid new) → KeepsEntry (stack.End (end_entry.AfterClosing k it w)) (completion.Faults fault) old new
closing_failed_kept k it w fault old new more entries kept = λ tree p rest is f.
    let code = old.code.instrs.items in
    let cs = old.memory.copies in
    let b = header_at code k in
    let o = iteration_of cs it in
    let s = state_in rest old in
    let r = kept tree p rest is (record { program = f.program; state = f.state; even = f.even; whole = f.whole; order = (tt, subst (InOrder (nesting_of old.memory)) (sym entries) f.order.1.1) }) in
    record {
      rest = r.rest;
      code = r.code;
      fits = r.fits;
      more = r.more;
      has = r.has;
      same = λ ans. closing_fails tree p b o (completion_of code cs w) (complaint_if fault) (stack_in old) s ans
          ∙ ap (λ (os : List StackEntry). means tree p (flat.errs_step (complained p (complaint_if fault) s) (flat.Completes (Raises nothing_passed)) (stack_of code cs os)) ans) (sym entries)
          ∙ r.same ans;
    }

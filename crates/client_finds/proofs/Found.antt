-- FIND, and the record of a FOR.
use Rattle.std.proofs.Common.{◌≡◌, ◌-◌, Bool, false, true, ℕ, List, [], ◌∷◌, Option, Some, None, refl, sym, ap, ◌∙◌, subst, arith}
use Rattle.std.specs.Prelude.{length, reverse}
use Rattle.database_protocol.specs.declared.answer.Answer.{Answer}
use Rattle.database_protocol.specs.declared.row_order.Cursor.{Cursor}
use Rattle.bound_tree.specs.declared.statement.FindWord.{FindWord}
use Rattle.bound_tree.specs.Tree.{Body, Fetch}
use Rattle.block_meaning.specs.Buffers.{own}
use Rattle.block_meaning.specs.Frames.{emptied}
use Rattle.block_meaning.specs.Program.{Program}
use Rattle.block_meaning.specs.State as state
use Rattle.block_meaning.specs.State.{State, Copy}
use Rattle.block_meaning.proofs.Continues.{begins_itself}
use Rattle.flat_machine.specs.Flat as flat
use Rattle.flat_machine.specs.Flat.{IsCodeOf}
use Rattle.flat_machine.proofs.Machine.{step_means}
use Rattle.block_code.specs.declared.code.Instr.{Instr}
use Rattle.client_memory.specs.Frames.{state_with}
use Rattle.client_output.proofs.Unchanged.{written_same}
use Rattle.client_machine.specs.declared.machine.Machine.{Machine}
use Rattle.client_machine.specs.declared.mode.Completion.{Completion}
use Rattle.client_machine.specs.declared.mode.Completion.TheVariants as completion
use Rattle.client_machine.specs.declared.mode.Mode.{Mode}
use Rattle.client_machine.specs.declared.mode.Mode.TheVariants as mode
use Rattle.client_machine.specs.declared.mode.TurnData.{TurnData}
use Rattle.client_machine.specs.declared.mode.ends.BufferList.TheVariants as buffer_list
use Rattle.client_machine.specs.declared.mode.reads.ReadEntry.TheVariants as read_entry
use Rattle.client_machine.specs.declared.mode.StackEntry.{StackEntry}
use Rattle.client_machine.specs.declared.mode.StackEntry.TheVariants as stack
use Rattle.client_machine.specs.declared.mode.Task.TheVariants as task
use Rattle.client_machine.specs.declared.mode.ends.EndTask.TheVariants as end_task
use Rattle.client_machine.specs.declared.mode.reads.ReadTask.{ReadTask}
use Rattle.client_machine.specs.declared.mode.reads.ReadTask.TheVariants as read_task
use Rattle.client_machine.specs.Config.{completion_of, copy_in, entry_of, fetch_at, header_at, mode_of, read_task_of, stack_of}
use Rattle.client_machine.specs.Inputs.{names_of}
use Rattle.client_machine.specs.KeepsFrom.{KeepsFrom}
use Rattle.client_machine.specs.Machine.{config_of, stack_in, state_in}
use Rattle.client_machine.specs.Order.{CompletesInOrder, HaveDepths, InOrder, IsLast, IsOwn, LeavesInOrder, ModeInOrder, Nesting, nesting_of, outside, under}
use Rattle.client_machine.specs.Step.{EntryFits, FitsIn, KeepsEntry, KeepsTask, code_in}
use Rattle.client_finds.specs.Stays.{ReadsIn, Stays, StaysIn, state_under}
use Rattle.client_finds.specs.Steps.{instrs_in, KeepsExecuted}
use Rattle.client_finds.proofs.Kept.{memory_goes, nesting_stays, pushed_kept, rest_now, step_kept, task_from}

-- ---- the old record is released

-- the two entries were pushed
pub released_kept : (old one two new : Machine) (buffer : ℕ) (t : ReadTask) →
    (let m : Machine = record old { stack = one.stack } in one ≡ m) → reverse one.stack.items ≡ stack.Then (task.Read t) ∷ reverse old.stack.items →
    (let m : Machine = record one { stack = two.stack } in two ≡ m) → reverse two.stack.items ≡ stack.Then (task.End (end_task.Drops buffer)) ∷ reverse one.stack.items →
    KeepsExecuted (flat.EntersOne (own buffer)) two new →
    KeepsFrom (λ p s. flat.config (flat.Execute (flat.EntersOne (own buffer))) (flat.ThenDo (flat.Drops buffer) ∷ flat.ThenDo (read_task_of (instrs_in old) t) ∷ stack_in old) s) old new
released_kept old one two new buffer t moved top moved' top' keeps =
    pushed_kept (λ is p ks s. flat.config (flat.Execute (flat.EntersOne (own buffer))) (flat.ThenDo (flat.Drops buffer) ∷ ks) s) old one new (stack.Then (task.Read t)) moved top (λ o. (tt, o))
    (pushed_kept (λ is p ks s. flat.config (flat.Execute (flat.EntersOne (own buffer))) ks s) one two new (stack.Then (task.End (end_task.Drops buffer))) moved' top' (λ o. (tt, o)) keeps)

-- ---- a completion reaches an entry

-- the mode, the stack and the memory have changed
pub entry_goes : (entry : StackEntry) (w : Completion) (old new : Machine) → (let m : Machine = record old { mode = new.mode; stack = new.stack; memory = new.memory } in new ≡ m) → StaysIn old new.memory →
    (CompletesInOrder (nesting_of old.memory) w (entry ∷ reverse old.stack.items) → ModeInOrder (nesting_of old.memory) new.mode (reverse new.stack.items)) →
    ((tree : ℕ → Body) (p : Program) (rest : State) → IsCodeOf (code_in old) p tree → ReadsIn p (rest_now rest old) old → (ans : List Answer) →
    flat.means tree p (flat.pop_step p (entry_of (instrs_in old) old.memory.copies entry) (completion_of (instrs_in old) old.memory.copies w) (stack_in old) (state_in rest old)) ans
    ≡ flat.means tree p (flat.config (mode_of (instrs_in old) old.memory.copies new.mode) (stack_of (instrs_in old) old.memory.copies (reverse new.stack.items)) (state_with (rest_now rest old) old.procedures.items new.memory)) ans) →
    KeepsEntry entry w old new
entry_goes entry w old new moved stays order same = λ tree p rest is f.
    let reads : ReadsIn p (rest_now rest old) old = record { forms = f.program.forms; even = f.even; status_is = f.state.status_is; returned_is = f.state.returned_is } in
    let s = stays p (rest_now rest old) reads in
    record {
      rest = rest;
      code = ap (λ (m : Machine). m.code) moved;
      fits = subst (λ (n : Machine). FitsIn p rest n.mode n) (sym moved) (record {
        program = f.program;
        state = f.state;
        even = s.even;
        whole = subst (λ (cs : List Copy). HaveDepths 0 cs) (sym s.copies) f.whole;
        order = subst (λ n. ModeInOrder n new.mode (reverse new.stack.items)) (sym (nesting_stays old.procedures.items old.memory new.memory f.even.0 s)) (order f.order);
      });
      more = begins_itself rest.written;
      has = λ has. written_same old.output new.output (names_of old.code) rest.written (ap (λ (m : Machine). m.output) moved) has;
      same = λ ans.
          step_means (code_in old) tree p is (flat.config (flat.Unwind (completion_of (instrs_in old) old.memory.copies w)) (entry_of (instrs_in old) old.memory.copies entry ∷ stack_in old) (state_in rest old)) ans
          ∙ same tree p rest is reads ans
          ∙ ap (λ (cs : List Copy). flat.means tree p (flat.config (mode_of (instrs_in old) cs new.mode) (stack_of (instrs_in old) cs (reverse new.stack.items)) (state_with (record rest { level = length cs; units = old.units }) old.procedures.items new.memory)) ans) (sym s.copies)
          ∙ ap (λ (m : Machine). flat.means tree p (config_of rest m) ans) (sym moved);
    }

-- the mode alone has
pub entry_moved : (entry : StackEntry) (w : Completion) (old new : Machine) (m : Mode) → (let x : Machine = record old { mode = m } in new ≡ x) →
    (CompletesInOrder (nesting_of old.memory) w (entry ∷ reverse old.stack.items) → ModeInOrder (nesting_of old.memory) m (reverse old.stack.items)) →
    ((p : Program) (rest : State) → flat.pop_step p (entry_of (instrs_in old) old.memory.copies entry) (completion_of (instrs_in old) old.memory.copies w) (stack_in old) (state_in rest old) ≡ flat.config (mode_of (instrs_in old) old.memory.copies m) (stack_in old) (state_in rest old)) →
    KeepsEntry entry w old new
entry_moved entry w old new m moved order same =
    let x : Machine = record old { mode = m } in
    subst (KeepsEntry entry w old) (sym moved)
    (entry_goes entry w old x refl (λ p rest reads. record { even = reads.even; copies = refl }) order (λ tree p rest is reads ans. ap (λ c. flat.means tree p c ans) (same p rest)))

-- an entry was pushed, and the mode has changed
pub entry_pushed : (entry : StackEntry) (w : Completion) (old mid new : Machine) (m : Mode) (e : StackEntry) → (let x : Machine = record old { stack = mid.stack } in mid ≡ x) → reverse mid.stack.items ≡ e ∷ reverse old.stack.items →
    (let x : Machine = record mid { mode = m } in new ≡ x) →
    (CompletesInOrder (nesting_of old.memory) w (entry ∷ reverse old.stack.items) → ModeInOrder (nesting_of old.memory) m (e ∷ reverse old.stack.items)) →
    ((p : Program) (rest : State) → flat.pop_step p (entry_of (instrs_in old) old.memory.copies entry) (completion_of (instrs_in old) old.memory.copies w) (stack_in old) (state_in rest old) ≡ flat.config (mode_of (instrs_in old) old.memory.copies m) (entry_of (instrs_in old) old.memory.copies e ∷ stack_in old) (state_in rest old)) →
    KeepsEntry entry w old new
entry_pushed entry w old mid new m e moved top set order same =
    let x : Machine = record old { mode = m; stack = mid.stack } in
    let all : new ≡ x = set ∙ ap (λ (y : Machine). record y { mode = m }) moved in
    subst (KeepsEntry entry w old) (sym all)
    (entry_goes entry w old x refl (λ p rest reads. record { even = reads.even; copies = refl }) (λ o. subst (λ ks. ModeInOrder (nesting_of old.memory) m ks) (sym top) (order o))
    (λ tree p rest is reads ans.
    ap (λ c. flat.means tree p c ans) (same p rest)
    ∙ ap (λ ks. flat.means tree p (flat.config (mode_of (instrs_in old) old.memory.copies m) (stack_of (instrs_in old) old.memory.copies ks) (state_in rest old)) ans) (sym top)))

-- ---- a FOR without a further record

-- the innermost level is left next
leaves_order : (n : Nesting) (d : ℕ) (ks : List StackEntry) → IsLast n (Some d) → IsOwn n (Some d) → InOrder (under n (Some d)) ks → LeavesInOrder n ks
leaves_order n d ks last own' o = (omega (arith, last, own'.0), subst (λ j. InOrder (outside (j - 1) n) ks) last o)

-- the buffer is empty
emptied_is : (old mid : Machine) (rest : State) (b b' : ℕ) → (let m : Machine = record old { memory = mid.memory } in mid ≡ m) → b ≡ b' → state_under (rest_now rest old) mid ≡ emptied b' (state_under (rest_now rest old) old) →
    emptied b (state_in rest old) ≡ state_with (rest_now rest old) old.procedures.items mid.memory
emptied_is old mid rest b b' moved same goes =
    ap (λ n. emptied n (state_in rest old)) same ∙ sym goes ∙ ap (λ (m : Machine). state_with (rest_now rest old) m.procedures.items mid.memory) moved

-- with a level: it is left
pub none_with_level : (old mid new : Machine) (k d : ℕ) (t : TurnData) (retry : Bool) (left b : ℕ) → (let m : Machine = record old { memory = mid.memory } in mid ≡ m) → StaysIn old mid.memory → (fetch_at (instrs_in old) k).reading.buffer ≡ b →
    ((p : Program) (rest : State) → ReadsIn p rest old → state_under rest mid ≡ emptied b (state_under rest old)) →
    (let x : Machine = record mid { mode = mode.Execute (task.End (end_task.LeavesNow (buffer_list.Scoped k))) } in new ≡ x) →
    KeepsEntry (stack.Read (read_entry.FetchedAs k (Some d) t retry left)) completion.NotFound old new
none_with_level old mid new k d t retry left b moved stays is_buffer goes set =
    let f = fetch_at (instrs_in old) k in
    let but = (header_at (instrs_in old) k).scoped in
    let x : Machine = record old { mode = mode.Execute (task.End (end_task.LeavesNow (buffer_list.Scoped k))); memory = mid.memory } in
    let all : new ≡ x = set ∙ ap (λ (m : Machine). record m { mode = mode.Execute (task.End (end_task.LeavesNow (buffer_list.Scoped k))) }) moved in
    subst (KeepsEntry (stack.Read (read_entry.FetchedAs k (Some d) t retry left)) completion.NotFound old) (sym all)
    (entry_goes (stack.Read (read_entry.FetchedAs k (Some d) t retry left)) completion.NotFound old x refl stays
    (λ o. leaves_order (nesting_of old.memory) d (reverse old.stack.items) o.1.0 o.1.1 o.1.2)
    (λ tree p rest is reads ans.
    step_means (code_in old) tree p is (flat.config (flat.Execute (flat.LeavesIf (copy_in old.memory.copies (Some d)) but)) (stack_in old) (emptied f.reading.buffer (state_in rest old))) ans
    ∙ ap (λ s. flat.means tree p (flat.config (flat.Execute (flat.LeavesNow but)) (stack_in old) s) ans) (emptied_is old mid rest f.reading.buffer b moved is_buffer (goes p (rest_now rest old) reads))))

-- without one it is over
pub none_without_level : (old mid new : Machine) (k : ℕ) (t : TurnData) (retry : Bool) (left b : ℕ) → (let m : Machine = record old { memory = mid.memory } in mid ≡ m) → StaysIn old mid.memory → (fetch_at (instrs_in old) k).reading.buffer ≡ b →
    ((p : Program) (rest : State) → ReadsIn p rest old → state_under rest mid ≡ emptied b (state_under rest old)) →
    (let x : Machine = record mid { mode = mode.Unwind completion.Normal } in new ≡ x) →
    KeepsEntry (stack.Read (read_entry.FetchedAs k None t retry left)) completion.NotFound old new
none_without_level old mid new k t retry left b moved stays is_buffer goes set =
    let f = fetch_at (instrs_in old) k in
    let but = (header_at (instrs_in old) k).scoped in
    let x : Machine = record old { mode = mode.Unwind completion.Normal; memory = mid.memory } in
    let all : new ≡ x = set ∙ ap (λ (m : Machine). record m { mode = mode.Unwind completion.Normal }) moved in
    subst (KeepsEntry (stack.Read (read_entry.FetchedAs k None t retry left)) completion.NotFound old) (sym all)
    (entry_goes (stack.Read (read_entry.FetchedAs k None t retry left)) completion.NotFound old x refl stays
    (λ o. (tt, o.1.2))
    (λ tree p rest is reads ans.
    step_means (code_in old) tree p is (flat.config (flat.Execute (flat.LeavesIf None but)) (stack_in old) (emptied f.reading.buffer (state_in rest old))) ans
    ∙ ap (λ s. flat.means tree p (flat.config (flat.Unwind state.Normal) (stack_in old) s) ans) (emptied_is old mid rest f.reading.buffer b moved is_buffer (goes p (rest_now rest old) reads))))

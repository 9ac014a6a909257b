-- Back is answered: the copy of its level is restored, and the level is left next.
use Rattle.std.proofs.Common.{◌≡◌, ℕ, zero, suc, ◌-◌, ◌<◌, ◌≤◌, List, [], ◌∷◌, ◌++◌, length, Some, refl, sym, ap, ◌∙◌, subst, arith, append-nil, append_assoc, take, drop}
use Rattle.std.specs.Prelude.{reverse, slice_index_or}
use Rattle.std.proofs.lemmas.List.{length-append, length-take-le, take-append-drop}
use Rattle.database_protocol.specs.declared.answer.Answer.{Answer}
use Rattle.database_protocol.specs.declared.operation.Op.{Op}
use Rattle.bound_tree.specs.Tree.{Body}
use Rattle.block_meaning.specs.Program.{Program}
use Rattle.block_meaning.specs.State.{State, Copy, Completion, Normal, Again, Leaves, Nexts, Undoes, Faults, Raises, EndKeys, Returns, Stops, Found, Lost, NotFound, Outcome, Done, Suspended, completes, and_then}
use Rattle.block_meaning.specs.Frames.{put_back}
use Rattle.block_meaning.specs.Buffers.{all_places}
use Rattle.block_meaning.proofs.Continues.{begins_itself}
use Rattle.flat_machine.specs.Flat as flat
use Rattle.flat_machine.specs.Flat.{means, config, after_stack}
use Rattle.flat_machine.proofs.Machine.{answered_means}
use Rattle.flat_machine.proofs.Fused.{after_back_at_once}
use Rattle.client_memory.specs.Memory.{Remembered, left_to, restored, restored_from, last_copy, contents_in, buffers_restored, HasAll, IsWhole, HasNoBuffers}
use Rattle.client_memory.proofs.LevelFrames.{even_restored}
use Rattle.client_memory.specs.Buffers as buffers
use Rattle.client_memory.proofs.NoBuffers.{none_restored}
use Rattle.block_code.specs.declared.code.Instr.{Instr}
use Rattle.client_machine.specs.declared.machine.Machine.{Machine}
use Rattle.client_machine.specs.declared.mode.OnAnswer.{OnAnswer}
use Rattle.client_machine.specs.declared.mode.OnAnswer.TheVariants as on_answer
use Rattle.client_machine.specs.declared.mode.Mode.{Mode}
use Rattle.client_machine.specs.declared.mode.Mode.TheVariants as mode
use Rattle.client_machine.specs.declared.mode.Task.TheVariants as task
use Rattle.client_machine.specs.declared.mode.StackEntry.{StackEntry}
use Rattle.client_machine.specs.Config.{stack_of, state_of, no_copy, on_answer_of, AllBelow, AreEven}
use Rattle.client_machine.specs.Machine.{config_of, stack_in, state_in}
use Rattle.client_machine.specs.Order.{nesting_of, outside, IsOwn, HaveDepths, ModeInOrder}
use Rattle.client_machine.proofs.Fits.{refits, same_code, has_same, moved_by}
use Rattle.client_machine.specs.Step.{FitsIn}
use Rattle.client_machine.specs.AnswerClass.{KeepsAnswer}
use Rattle.client_machine.proofs.Levels.{opens_same}
use Rattle.client_machine.proofs.Orders.{back_order, outer_below}
use Rattle.client_machine.proofs.Nestings.{level_open, level_whole, depth_at, depths_taken, nesting_taken}
use Rattle.client_machine.proofs.GoesBack.{level_comes_back}
use Rattle.client_machine.proofs.End.{no_places}

-- ---- nothing follows a normal completion

normal_after : (c : Completion) (s : State) (ans : List Answer) → and_then (Done c s ans) (completes Normal) ≡ Done c s ans
normal_after Normal s ans = refl
normal_after (Again t) s ans = refl
normal_after (Leaves l) s ans = refl
normal_after (Nexts l) s ans = refl
normal_after (Undoes l a r b) s ans = refl
normal_after (Faults c) s ans = refl
normal_after (Raises b) s ans = refl
normal_after (EndKeys b) s ans = refl
normal_after (Found c) s ans = refl
normal_after Lost s ans = refl
normal_after NotFound s ans = refl
normal_after (Returns e) s ans = refl
normal_after (Stops e) s ans = refl

nothing_after : (r : Outcome) → and_then r (completes Normal) ≡ r
nothing_after (Done c s ans) = normal_after c s ans
nothing_after (Suspended d) = refl

-- an UNDO without buffers leaves its level
back_at_once : (tree : ℕ → Body) (p : Program) (copy : Copy) (ks : List flat.StackEntry) (s : State) (ans : List Answer) → all_places (put_back copy s) ≡ [] →
    means tree p (config (flat.Execute (flat.AfterBack copy [])) ks s) ans ≡ means tree p (config (flat.Execute (flat.LeavesNow [])) ks (put_back copy s)) ans
back_at_once tree p copy ks s ans none =
    after_back_at_once tree p copy [] ks s ans none
    ∙ ap (after_stack tree p ks) (nothing_after (flat.task_means tree p (flat.LeavesNow []) (put_back copy s) ans))

-- ---- the copy of a level

last_taken : (k : ℕ) (cs : List Copy) → k < length cs → last_copy (take (suc k) cs) ≡ Some (slice_index_or cs k no_copy)
last_taken k [] lt = absurd (omega (arith, lt))
last_taken zero (c ∷ cs) lt = refl
last_taken (suc k) (c ∷ []) lt = absurd (omega (arith, lt))
last_taken (suc k) (c ∷ d ∷ cs) lt = last_taken k (d ∷ cs) (omega (arith, lt))

-- entries that name outer levels keep their copies
stack_more : (code : List Instr) (xs ys : List Copy) (ks : List StackEntry) → ((n : ℕ) → length xs ≤ n → AllBelow n ks) → stack_of code (xs ++ ys) ks ≡ stack_of code xs ks
stack_more code xs [] ks below = ap (λ cs. stack_of code cs ks) (append-nil xs)
stack_more code xs (y ∷ ys) ks below =
    ap (λ cs. stack_of code cs ks) (sym (append_assoc xs (y ∷ []) ys))
    ∙ stack_more code (xs ++ y ∷ []) ys ks (λ n le. below n (let e = length-append xs (y ∷ []) in omega (arith, e, le)))
    ∙ opens_same code xs y ks (below (length xs) (omega arith))

-- ---- the answer

pub answered_means_by : (op : Op) (on_answer : OnAnswer) (a : Answer) (old new : Machine) (m : Mode) (mem : Remembered) → (let x : Machine = record old { mode = m; memory = mem } in new ≡ x) →
    ((p : Program) (rest : State) → FitsIn p rest (mode.Await op on_answer) old → AreEven old.procedures.items mem × (HaveDepths 0 mem.copies × ModeInOrder (nesting_of mem) m (reverse old.stack.items))) →
    ((tree : ℕ → Body) (p : Program) (rest : State) → FitsIn p rest (mode.Await op on_answer) old → (ans : List Answer) → means tree p (flat.answered p a op (on_answer_of old.code.instrs.items old.memory.copies op on_answer) (stack_in old) (state_in rest old)) ans ≡ means tree p (config_of rest new) ans) →
    KeepsAnswer op on_answer a old new
answered_means_by op on_answer a old new m mem moved inv steps = λ tree p rest is f.
    let moved' = moved_by old new m mem moved in
    record {
      rest = rest;
      code = same_code old new moved';
      fits = refits p rest (mode.Await op on_answer) new.mode old new moved' f
          (subst (λ (n : Machine). AreEven n.procedures.items n.memory) (sym moved) (inv p rest f).0)
          (subst (λ (n : Machine). HaveDepths 0 n.memory.copies) (sym moved) (inv p rest f).1.0)
          (subst (λ (n : Machine). ModeInOrder (nesting_of n.memory) n.mode (reverse n.stack.items)) (sym moved) (inv p rest f).1.1);
      more = begins_itself rest.written;
      has = has_same old new rest.written moved';
      same = λ ans. answered_means tree p a op (on_answer_of old.code.instrs.items old.memory.copies op on_answer) (stack_in old) (state_in rest old) ans ∙ steps tree p rest f ans;
    }

-- what holds of the restored memory
pub record IsBack (ns : List ℕ) (old mem : Remembered) (d : ℕ) : Type 0 where
  pub even : AreEven ns mem
  pub whole : HaveDepths 0 mem.copies
  pub nesting_is : nesting_of mem ≡ outside d (nesting_of old)
  pub copies_is : mem.copies ≡ take d old.copies
  pub none : HasNoBuffers old → HasNoBuffers mem
  pub state_is : (rest : State) (units : ℕ) → state_of rest ns mem units ≡ put_back (slice_index_or old.copies (d - 1) no_copy) (state_of rest ns old units)

pub is_back : (ns : List ℕ) (old mem : Remembered) (d : ℕ) → (IsWhole (left_to d old) → mem ≡ restored (left_to d old)) →
    IsOwn (nesting_of old) (Some d) → AreEven ns old → HaveDepths 0 old.copies → IsBack ns old mem d
is_back ns old mem d restores own even depths =
    let some = own.0 in
    let low = level_open old d own in
    let k = d - 1 in
    let c = slice_index_or old.copies k no_copy in
    let is : d ≡ suc k = omega (arith, some) in
    let lt : k < length old.copies = omega (arith, some, low) in
    let last : last_copy (take d old.copies) ≡ Some c = ap (λ n. last_copy (take n old.copies)) is ∙ last_taken k old.copies lt in
    let all : length c.frames ≡ length old.undoable = level_whole old d own in
    let is_whole : IsWhole (left_to d old) = subst (λ x. HasAll x old.undoable) (sym last) all in
    let mem_is = restores is_whole in
    let even' : AreEven ns mem = subst (λ (m : Remembered). AreEven ns m) (sym mem_is) (even_restored ns (left_to d old) c even is_whole last) in
    let copies : mem.copies ≡ take d old.copies = ap (λ (m : Remembered). m.copies) mem_is ∙ ap (λ x. (restored_from x (left_to d old)).copies) last in
    let bufs : mem.buffers ≡ buffers_restored (contents_in c) old.buffers = ap (λ (m : Remembered). m.buffers) mem_is ∙ ap (λ x. (restored_from x (left_to d old)).buffers) last in
    let deep : c.depth ≡ length (take d old.copies) = depth_at 0 old.copies k depths lt ∙ (let e = length-take-le d old.copies low in omega (arith, e, is)) in
    record {
      even = even';
      whole = subst (λ cs. HaveDepths 0 cs) (sym copies) (depths_taken d 0 old.copies depths);
      nesting_is = nesting_taken d old mem (sym even'.0 ∙ even.0) copies;
      copies_is = copies;
      none = λ none. subst buffers.HasNoBuffers (sym bufs) (none_restored (contents_in c) old.buffers none);
      state_is = λ rest units. level_comes_back rest ns (left_to d old) mem units c mem_is last deep is_whole even;
    }

pub back_keeps : (op : Op) (a : Answer) (depth : ℕ) (old new : Machine) (mem : Remembered) → (let x : Machine = record old { mode = mode.Execute task.LeavesNow; memory = mem } in new ≡ x) →
    (IsWhole (left_to depth old.memory) → mem ≡ restored (left_to depth old.memory)) →
    HasNoBuffers old.memory →
    ((p : Program) (o : Op) (k : flat.OnAnswer) (ks : List flat.StackEntry) (s : State) → flat.answered p a o k ks s ≡ flat.answer_step p k a ks s) →
    KeepsAnswer op (on_answer.WasBack depth) a old new
back_keeps op a depth old new mem moved restores bufferless done =
    let ns = old.procedures.items in
    let cs = old.memory.copies in
    let os = reverse old.stack.items in
    let c = slice_index_or cs (depth - 1) no_copy in
    let code = old.code.instrs.items in
    let facts : (p : Program) (rest : State) → FitsIn p rest (mode.Await op (on_answer.WasBack depth)) old → IsBack ns old.memory mem depth = λ p rest f. is_back ns old.memory mem depth restores f.order.1.0 f.even f.whole in
    answered_means_by op (on_answer.WasBack depth) a old new (mode.Execute task.LeavesNow) mem moved
    (λ p rest f.
    let b = facts p rest f in
    (b.even, (b.whole, subst (λ n. ModeInOrder n (mode.Execute task.LeavesNow) os) (sym b.nesting_is) (back_order (nesting_of old.memory) depth os f.order.1))))
    (λ tree p rest f ans.
    let b = facts p rest f in
    let s = state_in rest old in
    let ks = stack_in old in
    let s' : state_of rest ns mem old.units ≡ put_back c s = b.state_is rest old.units in
    let none : all_places (put_back c s) ≡ [] = ap all_places (sym s') ∙ no_places rest ns mem old.units b.even (b.none bufferless) in
    let low : length (take depth cs) ≡ depth = length-take-le depth cs (level_open old.memory depth f.order.1.0) in
    let same_stack : stack_of code mem.copies os ≡ stack_of code cs os =
    ap (λ xs. stack_of code xs os) b.copies_is
    ∙ sym (stack_more code (take depth cs) (drop depth cs) os (λ n le. outer_below n (depth - 1) (nesting_of old.memory) os (omega (arith, le, low)) f.order.1.1))
    ∙ ap (λ xs. stack_of code xs os) (take-append-drop depth cs) in
    ap (λ k. means tree p k ans) (done p op (flat.WasBack c []) ks s)
    ∙ back_at_once tree p c ks s ans none
    ∙ ap (λ xs. means tree p (config (flat.Execute (flat.LeavesNow [])) xs (put_back c s)) ans) (sym same_stack)
    ∙ ap (λ x. means tree p (config (flat.Execute (flat.LeavesNow [])) (stack_of code mem.copies os) x) ans) (sym s')
    ∙ ap (λ (x : Machine). means tree p (config_of rest x) ans) (sym moved))

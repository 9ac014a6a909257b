-- After Back the copy of the level is restored; the level is left next.
use Rattle.std.proofs.Common.{◌≡◌, ℕ, zero, suc, ◌-◌, ◌<◌, ◌≤◌, List, [], ◌∷◌, ◌++◌, length, Some, refl, sym, ap, ◌∙◌, subst, arith, append-nil, append_assoc, take, drop, map}
use Rattle.std.specs.Prelude.{Vec, reverse, slice_index_or}
use Rattle.std.specs.declared.alloc.Global.{Global}
use Rattle.std.proofs.lemmas.List.{get_or-take, length-append, length-take-le, take-append-drop}
use Rattle.block_meaning.specs.Program.{Program}
use Rattle.block_meaning.specs.State.{State, Copy}
use Rattle.block_meaning.specs.Frames.{put_back}
use Rattle.block_meaning.specs.Buffers.{Place, all_places}
use Rattle.flat_machine.specs.Flat as flat
use Rattle.flat_machine.specs.Flat.{means, config}
use Rattle.flat_machine.proofs.Machine.{step_means}
use Rattle.client_memory.specs.declared.buffer.Place.{Place as PlaceRs}
use Rattle.client_memory.specs.Buffers.{denoted_place, places_in}
use Rattle.client_memory.specs.Memory.{Remembered, left_to, restored, last_copy, made_before, IsWhole}
use Rattle.client_memory.proofs.FramesOut.{places_are}
use Rattle.block_code.specs.declared.code.Instr.{Instr}
use Rattle.client_machine.specs.declared.machine.Machine.{Machine}
use Rattle.client_machine.specs.declared.mode.Mode.TheVariants as mode
use Rattle.client_machine.specs.declared.mode.Task.TheVariants as task
use Rattle.client_machine.specs.declared.mode.StackEntry.{StackEntry}
use Rattle.client_machine.specs.declared.mode.StackEntry.TheVariants as stack
use Rattle.client_machine.specs.declared.mode.ends.BufferList.{BufferList}
use Rattle.client_machine.specs.declared.mode.ends.EndTask.TheVariants as end_task
use Rattle.client_machine.specs.Config.{buffers_of, no_copy, stack_of, state_of, AllBelow}
use Rattle.client_machine.specs.Machine.{stack_in, state_in}
use Rattle.client_machine.specs.Order.{nesting_of, outside, IsOwn, ModeInOrder, Named, Nesting}
use Rattle.client_machine.specs.Step.{code_in, FitsIn, KeepsTask}
use Rattle.client_machine.proofs.Backs.{IsBack, is_back}
use Rattle.client_machine.proofs.Levels.{opens_same}
use Rattle.client_machine.proofs.Nestings.{level_open}
use Rattle.client_machine.proofs.Orders.{back_order, outer_below}
use Rattle.client_ends.proofs.Moved.{task_moved}

-- ---- the copy of a level

last_taken : (k : ℕ) (cs : List Copy) → k < length cs → last_copy (take (suc k) cs) ≡ Some (slice_index_or cs k no_copy)
last_taken k [] lt = absurd (omega (arith, lt))
last_taken zero (c ∷ cs) lt = refl
last_taken (suc k) (c ∷ []) lt = absurd (omega (arith, lt))
last_taken (suc k) (c ∷ d ∷ cs) lt = last_taken k (d ∷ cs) (omega (arith, lt))

-- the number of CREATEs before it
made_at : (cs xs : List Copy) (d : ℕ) → xs ≡ take d cs → 0 < d → d ≤ length cs → made_before (last_copy xs) ≡ (slice_index_or cs (d - 1) no_copy).made
made_at cs xs d is some le =
    let e : d ≡ suc (d - 1) = omega (arith, some) in
    ap (λ ys. made_before (last_copy ys)) is ∙ ap (λ n. made_before (last_copy (take n cs))) e
    ∙ ap made_before (last_taken (d - 1) cs (omega (arith, some, le)))

-- entries that name outer levels keep their copies
stack_more : (code : List Instr) (xs ys : List Copy) (ks : List StackEntry) → ((n : ℕ) → length xs ≤ n → AllBelow n ks) → stack_of code (xs ++ ys) ks ≡ stack_of code xs ks
stack_more code xs [] ks below = ap (λ cs. stack_of code cs ks) (append-nil xs)
stack_more code xs (y ∷ ys) ks below =
    ap (λ cs. stack_of code cs ks) (sym (append_assoc xs (y ∷ []) ys))
    ∙ stack_more code (xs ++ y ∷ []) ys ks (λ n le. below n (let e = length-append xs (y ∷ []) in omega (arith, e, le)))
    ∙ opens_same code xs y ks (below (length xs) (omega arith))

-- the level is the innermost one then
is_innermost : (n : Nesting) (d : ℕ) → IsOwn n (Some d) → IsOwn (outside d n) (Some (length (take d n.levels)))
is_innermost n d own =
    let long : length (take d n.levels) ≡ d = length-take-le d n.levels own.1 in
    subst (λ k. IsOwn (outside d n) (Some k)) (sym long) (own.0, omega (arith, long), get_or-take d n.levels (d - 1) 0 (omega (arith, own.0)) ∙ own.2)

restored_order : (n : Nesting) (d : ℕ) (made from : ℕ) (places : List PlaceRs) (but released emptied : BufferList) (ks : List StackEntry) → Named n (Some d) ks →
    ModeInOrder (outside d n) (mode.Execute (task.End (end_task.Updates made but places from))) (stack.Then (task.End (end_task.LeavesNow released)) ∷ stack.Then (task.End (end_task.Empties emptied)) ∷ ks)
restored_order n d made from places but released emptied ks o = (tt, (is_innermost n d o.0, (tt, (back_order n d ks o).1)))

-- ---- the step

pub restores : (depth made : ℕ) (but released emptied : BufferList) (places : List PlaceRs) (old new : Machine) (more : Vec StackEntry Global) (mem : Remembered) →
    (let x : Machine = record old { mode = mode.Execute (task.End (end_task.Updates made but places 0)); stack = more; memory = mem } in new ≡ x) →
    reverse more.items ≡ stack.Then (task.End (end_task.LeavesNow released)) ∷ stack.Then (task.End (end_task.Empties emptied)) ∷ reverse old.stack.items →
    released ≡ but → emptied ≡ but →
    (IsWhole (left_to depth old.memory) → mem ≡ restored (left_to depth old.memory)) →
    made ≡ made_before (last_copy mem.copies) → map denoted_place places ≡ places_in mem.buffers →
    KeepsTask (task.End (end_task.AfterBack depth but)) old new
restores depth made but released emptied places old new more mem moved entries same_released same_emptied back made_is places_is =
    let ns = old.procedures.items in
    let cs = old.memory.copies in
    let os = reverse old.stack.items in
    let copy = slice_index_or cs (depth - 1) no_copy in
    let code = old.code.instrs.items in
    let bs = buffers_of code but in
    let n = nesting_of old.memory in
    let t = task.End (end_task.AfterBack depth but) in
    let m = mode.Execute (task.End (end_task.Updates made but places 0)) in
    let x : Machine = record old { mode = m; stack = more; memory = mem } in
    let facts : (p : Program) (rest : State) → FitsIn p rest (mode.Execute t) old → IsBack ns old.memory mem depth = λ p rest f. is_back ns old.memory mem depth back f.order.0 f.even f.whole in
    subst (KeepsTask t old) (sym moved)
    (task_moved t old x refl
    (λ p rest f.
    let b = facts p rest f in (
      b.even,
      (
        b.whole,
        subst (λ j. ModeInOrder j m (reverse more.items)) (sym b.nesting_is)
            (subst (ModeInOrder (outside depth n) m) (sym entries) (restored_order n depth made 0 places but released emptied os f.order)),
      ),
    ))
    (λ tree p rest is f ans.
    let b = facts p rest f in
    let s = state_in rest old in
    let s' : state_of rest ns mem old.units ≡ put_back copy s = b.state_is rest old.units in
    let le : depth ≤ length cs = level_open old.memory depth f.order.0 in
    let low : length (take depth cs) ≡ depth = length-take-le depth cs le in
    let made' : copy.made ≡ made = sym (made_is ∙ made_at cs mem.copies depth b.copies_is f.order.0.0 le) in
    let places' : all_places (put_back copy s) ≡ map denoted_place places =
    ap all_places (sym s') ∙ places_are (record rest { level = length mem.copies; units = old.units }) ns mem b.even ∙ sym places_is in
    let same_stack : stack_of code mem.copies os ≡ stack_in old =
    ap (λ xs. stack_of code xs os) b.copies_is
    ∙ sym (stack_more code (take depth cs) (drop depth cs) os (λ k le'. outer_below k (depth - 1) n os (omega (arith, le', low)) f.order.1))
    ∙ ap (λ xs. stack_of code xs os) (take-append-drop depth cs) in
    step_means (code_in old) tree p is (config (flat.Execute (flat.AfterBack copy bs)) (stack_in old) s) ans
    ∙ ap (λ (ps : List Place). means tree p (config (flat.Execute (flat.Updates copy.made bs ps)) (flat.ThenDo (flat.LeavesNow bs) ∷ flat.ThenDo (flat.Empties bs) ∷ stack_in old) (put_back copy s)) ans) places'
    ∙ ap (λ (k : ℕ). means tree p (config (flat.Execute (flat.Updates k bs (map denoted_place places))) (flat.ThenDo (flat.LeavesNow bs) ∷ flat.ThenDo (flat.Empties bs) ∷ stack_in old) (put_back copy s)) ans) made'
    ∙ ap (λ (xs : List flat.StackEntry). means tree p (config (flat.Execute (flat.Updates made bs (map denoted_place places))) (flat.ThenDo (flat.LeavesNow bs) ∷ flat.ThenDo (flat.Empties bs) ∷ xs) (put_back copy s)) ans) (sym same_stack)
    ∙ ap (λ (l : BufferList). means tree p (config (flat.Execute (flat.Updates made bs (map denoted_place places))) (flat.ThenDo (flat.LeavesNow (buffers_of code l)) ∷ flat.ThenDo (flat.Empties bs) ∷ stack_of code mem.copies os) (put_back copy s)) ans) (sym same_released)
    ∙ ap (λ (l : BufferList). means tree p (config (flat.Execute (flat.Updates made bs (map denoted_place places))) (flat.ThenDo (flat.LeavesNow (buffers_of code released)) ∷ flat.ThenDo (flat.Empties (buffers_of code l)) ∷ stack_of code mem.copies os) (put_back copy s)) ans) (sym same_emptied)
    ∙ ap (λ (y : State). means tree p (config (flat.Execute (flat.Updates made bs (map denoted_place places))) (stack_of code mem.copies (stack.Then (task.End (end_task.LeavesNow released)) ∷ stack.Then (task.End (end_task.Empties emptied)) ∷ os)) y) ans) (sym s')
    ∙ ap (λ (xs : List StackEntry). means tree p (config (flat.Execute (flat.Updates made bs (map denoted_place places))) (stack_of code mem.copies xs) (state_of rest ns mem old.units)) ans) (sym entries)))

-- What is open, of a memory that changes.
use Rattle.std.proofs.Common.{◌≡◌, ℕ, zero, suc, ◌+◌, ◌-◌, ◌<◌, ◌≤◌, List, [], ◌∷◌, ◌++◌, length, Option, Some, None, refl, sym, ap, ◌∙◌, subst, arith, take}
use Rattle.std.specs.Prelude.{map, slice_index_or}
use Rattle.std.proofs.lemmas.List.{take-map, length-map, length-reverse, length-append, map-append, get_or_at, get_or-map}
use Rattle.std.proofs.Math.Seq.{take-append_seam}
use Rattle.block_meaning.specs.State.{Copy}
use Rattle.client_memory.specs.Memory.{HasFewer, IsOuter, Remembered, copy_now, entered, last_copy, left, saved_now, without_last}
use Rattle.client_memory.proofs.LevelFrames.{length_now}
use Rattle.client_machine.specs.declared.mode.StackEntry.{StackEntry}
use Rattle.client_machine.specs.declared.mode.StackEntry.TheVariants as stack
use Rattle.client_machine.specs.declared.mode.IterationData.{IterationData}
use Rattle.client_machine.specs.Config.{no_copy, AllBelow}
use Rattle.client_machine.specs.Order.{HaveDepths, InOrder, IsLast, IsOwn, LeavesInOrder, Nesting, left_in, nesting_of, outside, returned_in, under}
use Rattle.client_machine.proofs.Orders.{all_below, last_level, outer_below}

-- the same numbers
pub nesting_same : (m m' : Remembered) → length m'.undoable ≡ length m.undoable → m'.copies ≡ m.copies → nesting_of m' ≡ nesting_of m
nesting_same m m' e1 e2 =
    ap (λ k. let n : Nesting = record { procedures = k; levels = map (λ c. length c.frames) m'.copies } in n) e1
    ∙ ap (λ cs. let n : Nesting = record { procedures = length m.undoable; levels = map (λ c. length c.frames) cs } in n) e2

pub level_count : (m : Remembered) → length (nesting_of m).levels ≡ length m.copies
level_count m = length-map m.copies (λ (c : Copy). length c.frames)

-- ---- a level begins

pub nesting_entered : (made : ℕ) (m : Remembered) → length m.undoable ≡ length m.buffers → nesting_of (entered made m) ≡ record (nesting_of m) { levels = (nesting_of m).levels ++ length m.undoable ∷ [] }
nesting_entered made m even =
    ap (λ xs. record (nesting_of m) { levels = xs }) (map-append (λ (c : Copy). length c.frames) m.copies (copy_now made m ∷ [])
    ∙ ap (λ k. map (λ (c : Copy). length c.frames) m.copies ++ k ∷ []) (length-reverse (saved_now m.undoable m.buffers) ∙ length_now m.undoable m.buffers even))

-- the iteration that opened it
pub begins_order : (made : ℕ) (m : Remembered) (k : ℕ) (it : IterationData) (ks : List StackEntry) → it.depth ≡ Some (length m.copies + 1) → length m.undoable ≡ length m.buffers → InOrder (nesting_of m) ks → InOrder (nesting_of (entered made m)) (stack.In k it ∷ ks)
begins_order made m k it ks e even o =
    let n = nesting_of m in
    let grown : Nesting = record n { levels = n.levels ++ n.procedures ∷ [] } in
    let long : length grown.levels ≡ length m.copies + 1 = length-append n.levels (n.procedures ∷ []) ∙ ap (λ j. j + 1) (level_count m) in
    let count = level_count m in
    let last : length m.copies + 1 - 1 ≡ length n.levels = omega (arith, count) in
    subst (λ x. InOrder x (stack.In k it ∷ ks)) (sym (nesting_entered made m even))
    (subst (λ x. IsLast grown x × IsOwn grown x × InOrder (under grown x) ks) (sym e) (
      sym long,
      (omega arith, omega (arith, long), get_or_at n.levels n.procedures [] 0 (length m.copies + 1 - 1) (sym last)),
      subst (λ x. InOrder x ks) (ap (λ xs. record n { levels = xs }) (sym (ap (λ j. take j grown.levels) last ∙ take-append_seam n.levels (n.procedures ∷ [])))) o,
    ))

-- ---- a level is left

take_last : (cs : List Copy) → without_last cs ≡ take (length cs - 1) cs
take_last [] = refl
take_last (c ∷ []) = refl
take_last (c ∷ d ∷ cs) =
    ap (λ xs. c ∷ xs) (take_last (d ∷ cs))
    ∙ ap (λ j. take j (c ∷ d ∷ cs)) (let e : suc (length (d ∷ cs) - 1) ≡ length (c ∷ d ∷ cs) - 1 = omega arith in e)

pub nesting_left : (m : Remembered) → nesting_of (left m) ≡ left_in (nesting_of m)
nesting_left m =
    ap (λ xs. record (nesting_of m) { levels = xs }) (ap (map (λ (c : Copy). length c.frames)) (take_last m.copies)
    ∙ sym (take-map (λ (c : Copy). length c.frames) (length m.copies - 1) m.copies)
    ∙ ap (λ j. take (j - 1) (nesting_of m).levels) (sym (level_count m)))

pub left_order : (m : Remembered) (ks : List StackEntry) → LeavesInOrder (nesting_of m) ks → InOrder (nesting_of (left m)) ks
left_order m ks o = subst (λ n. InOrder n ks) (sym (nesting_left m)) o.1

pub some_level : (m : Remembered) (ks : List StackEntry) → LeavesInOrder (nesting_of m) ks → 0 < length m.copies
some_level m ks o = let count = level_count m in omega (arith, count, o.0)

-- the levels inside of level d are left, and its copy is restored
pub nesting_taken : (d : ℕ) (m m' : Remembered) → length m'.undoable ≡ length m.undoable → m'.copies ≡ take d m.copies → nesting_of m' ≡ outside d (nesting_of m)
nesting_taken d m m' e1 e2 =
    ap (λ k. let n : Nesting = record { procedures = k; levels = map (λ c. length c.frames) m'.copies } in n) e1
    ∙ ap (λ xs. let n : Nesting = record { procedures = length m.undoable; levels = xs } in n) (ap (map (λ (c : Copy). length c.frames)) e2 ∙ sym (take-map (λ (c : Copy). length c.frames) d m.copies))

-- ---- copies of what is open

pub all_open : (m : Remembered) (ks : List StackEntry) → InOrder (nesting_of m) ks → AllBelow (length m.copies) ks
all_open m ks o = all_below (length m.copies) (nesting_of m) ks (let count = level_count m in omega (arith, count)) o

pub all_outside : (m : Remembered) (ks : List StackEntry) → LeavesInOrder (nesting_of m) ks → AllBelow (length m.copies - 1) ks
all_outside m ks o = outer_below (length m.copies - 1) (length (nesting_of m).levels - 1) (nesting_of m) ks (let count = level_count m in omega (arith, count)) o.1

pub level_open : (m : Remembered) (d : ℕ) → IsOwn (nesting_of m) (Some d) → d ≤ length m.copies
level_open m d own = let count = level_count m in omega (arith, count, own.1)

-- the copy has all open procedures
pub level_whole : (m : Remembered) (d : ℕ) → IsOwn (nesting_of m) (Some d) → length (slice_index_or m.copies (d - 1) no_copy).frames ≡ length m.undoable
level_whole m d own =
    let count = level_count m in
    sym (get_or-map (λ (c : Copy). length c.frames) m.copies (d - 1) no_copy 0 (omega (arith, count, own.0, own.1))) ∙ own.2

-- ---- depths

pub depths_more : (n : ℕ) (cs : List Copy) (c : Copy) → HaveDepths n cs → c.depth ≡ n + length cs + 1 → HaveDepths n (cs ++ c ∷ [])
depths_more n [] c x e = (e ∙ (let a : n + 0 + 1 ≡ n + 1 = omega arith in a), tt)
depths_more n (d ∷ cs) c x e = (x.0, depths_more (n + 1) cs c x.1 (e ∙ (let a : n + length (d ∷ cs) + 1 ≡ n + 1 + length cs + 1 = omega arith in a)))

pub depths_entered : (made : ℕ) (m : Remembered) → HaveDepths 0 m.copies → HaveDepths 0 (entered made m).copies
depths_entered made m x = depths_more 0 m.copies (copy_now made m) x (omega arith)

pub depths_left : (n : ℕ) (cs : List Copy) → HaveDepths n cs → HaveDepths n (without_last cs)
depths_left n [] x = tt
depths_left n (c ∷ []) x = tt
depths_left n (c ∷ d ∷ cs) x = (x.0, depths_left (n + 1) (d ∷ cs) x.1)

pub depths_taken : (d n : ℕ) (cs : List Copy) → HaveDepths n cs → HaveDepths n (take d cs)
depths_taken zero n cs x = tt
depths_taken (suc d) n [] x = tt
depths_taken (suc d) n (c ∷ cs) x = (x.0, depths_taken d (n + 1) cs x.1)

pub depth_at : (n : ℕ) (cs : List Copy) (k : ℕ) → HaveDepths n cs → k < length cs → (slice_index_or cs k no_copy).depth ≡ n + k + 1
depth_at n [] k x lt = absurd (omega (arith, lt))
depth_at n (c ∷ cs) zero x lt = x.0 ∙ omega arith
depth_at n (c ∷ cs) (suc k) x lt = depth_at (n + 1) cs k x.1 (omega (arith, lt)) ∙ omega arith

-- the depth of an open level's copy
pub depth_is : (m : Remembered) (d : ℕ) → HaveDepths 0 m.copies → IsOwn (nesting_of m) (Some d) → (slice_index_or m.copies (d - 1) no_copy).depth ≡ d
depth_is m d whole own = depth_at 0 m.copies (d - 1) whole (let le = level_open m d own in omega (arith, own.0, le)) ∙ (let e : 0 + (d - 1) + 1 ≡ d = omega (arith, own.0) in e)

-- ---- a procedure ends

last_is : (cs : List Copy) (c : Copy) → last_copy cs ≡ Some c → slice_index_or (map (λ c. length c.frames) cs) (length (map (λ c. length c.frames) cs) - 1) 0 ≡ length c.frames
last_is [] c e = cc
last_is (d ∷ []) c e = let is : d ≡ c = cc in ap (λ (x : Copy). length x.frames) is
last_is (d ∷ k ∷ cs) c e =
    let f : Copy → ℕ = λ c. length c.frames in
    ap (λ n. slice_index_or (map f (d ∷ k ∷ cs)) n 0) (let e : length (map f (d ∷ k ∷ cs)) - 1 ≡ suc (length (map f (k ∷ cs)) - 1) = omega arith in e)
    ∙ last_is (k ∷ cs) c e

fewer_by : (m : Remembered) (x : Option Copy) → last_copy m.copies ≡ x → slice_index_or (nesting_of m).levels (length (nesting_of m).levels - 1) 0 ≤ length m.undoable - 1 → 0 < length m.undoable → HasFewer x m.undoable
fewer_by m None e le some = tt
fewer_by m (Some c) e le some = let is = last_is m.copies c e in omega (arith, is, le, some)

-- no level that is open began in it
pub is_outer : (m : Remembered) (ks : List StackEntry) → 0 < length m.undoable → InOrder (returned_in (nesting_of m)) ks → IsOuter m
is_outer m ks some o = (some, fewer_by m (last_copy m.copies) refl (last_level (returned_in (nesting_of m)) ks o) some)

pub nesting_ended : (m m' : Remembered) → length m'.undoable + 1 ≡ length m.undoable → m'.copies ≡ m.copies → nesting_of m' ≡ returned_in (nesting_of m)
nesting_ended m m' e1 e2 =
    ap (λ k. let n : Nesting = record { procedures = k; levels = map (λ c. length c.frames) m'.copies } in n) (let e : length m'.undoable ≡ length m.undoable - 1 = omega (arith, e1) in e)
    ∙ ap (λ cs. let n : Nesting = record { procedures = length m.undoable - 1; levels = map (λ c. length c.frames) cs } in n) e2

-- a procedure begins
pub nesting_begun : (m m' : Remembered) → length m'.undoable ≡ length m.undoable + 1 → m'.copies ≡ m.copies → returned_in (nesting_of m') ≡ nesting_of m
nesting_begun m m' e1 e2 =
    ap (λ k. let n : Nesting = record { procedures = k; levels = map (λ c. length c.frames) m'.copies } in n) (let e : length m'.undoable - 1 ≡ length m.undoable = omega (arith, e1) in e)
    ∙ ap (λ cs. let n : Nesting = record { procedures = length m.undoable; levels = map (λ c. length c.frames) cs } in n) e2

-- The copies after changes of the variables, the buffers, the old values and the savepoints.
use Rattle.std.proofs.Common.{◌≡◌, ℕ, zero, suc, ◌+◌, ◌-◌, ◌≤◌, List, [], ◌∷◌, ◌++◌, length, true, Some, refl, sym, ap, ◌∙◌, subst, arith}
use Rattle.std.specs.Prelude.{take, map, reverse}
use Rattle.std.proofs.lemmas.List.{map-append, length-map, length-reverse, reverse-append, reverse-reverse, length-append}
use Rattle.abl_base.specs.declared.value.Value.{Value}
use Rattle.block_meaning.specs.State.{Buffer, Copy, Saved, Content}
use Rattle.client_memory.specs.Undo.{OldValue, Savepoint, Values, with_value, value_at, restored_to, saved_of_all, copy_at}
use Rattle.client_memory.proofs.Copies.{values_stay, copy_after_value, length_with, length_back, map_reverse}
use Rattle.client_memory.specs.declared.memory.OldValue.{OldValue as OldValueRs}
use Rattle.client_memory.specs.declared.memory.Savepoint.{Savepoint as SavepointRs}
use Rattle.client_memory.specs.OldValues.{old_value_of, old_values_of}
use Rattle.client_memory.specs.Savepoints.{contents_with, counts_of, savepoint_of, savepoints_from, remembered, AreInOrder}
use Rattle.bound_tree.specs.declared.expression.Variable.{Variable}
use Rattle.client_memory.specs.Buffers.{saved_contents}
use Rattle.client_memory.specs.Memory.{Remembered, frame_of, set_as, set_variable, saved_now, entered, without_last, last_copy, variables_in, contents_in}

-- ---- the order of savepoints

pub reach : (old_values frames low few : ℕ) (ms : List SavepointRs) → AreInOrder old_values frames low few ms → (low ≤ old_values) × (few ≤ frames)
reach old_values frames low few [] h = h
reach old_values frames low few (m ∷ ms) h =
    let r = reach old_values frames m.old_values m.frames ms h.2 in
    (omega (arith, r.0, h.0), omega (arith, r.1, h.1))

pub more : (old_values old_values' frames low few : ℕ) (ms : List SavepointRs) → old_values ≤ old_values' → AreInOrder old_values frames low few ms → AreInOrder old_values' frames low few ms
more old_values old_values' frames low few [] le h = (omega (arith, h.0), h.1)
more old_values old_values' frames low few (m ∷ ms) le h = (h.0, h.1, more old_values old_values' frames m.old_values m.frames ms le h.2)

pub one_more : (old_values frames low few : ℕ) (ms : List SavepointRs) (m : SavepointRs) → m.old_values ≡ old_values → m.frames ≡ frames → AreInOrder old_values frames low few ms → AreInOrder old_values frames low few (ms ++ m ∷ [])
one_more old_values frames low few [] m e1 e2 h = (omega (arith, h.0, e1), omega (arith, h.1, e2), (omega (arith, e1), omega (arith, e2)))
one_more old_values frames low few (k ∷ ms) m e1 e2 h = (h.0, h.1, one_more old_values frames k.old_values k.frames ms m e1 e2 h.2)

pub one_less : (old_values frames low few : ℕ) (ms : List SavepointRs) (m : SavepointRs) → AreInOrder old_values frames low few (ms ++ m ∷ []) → AreInOrder old_values frames low few ms
one_less old_values frames low few [] m h = (omega (arith, h.0, h.2.0), omega (arith, h.1, h.2.1))
one_less old_values frames low few (k ∷ ms) m h = (h.0, h.1, one_less old_values frames k.old_values k.frames ms m h.2)

-- the innermost savepoint has the most old values
pub innermost : (old_values frames low few : ℕ) (ms : List SavepointRs) (m : SavepointRs) → AreInOrder old_values frames low few (ms ++ m ∷ []) → (m.old_values ≤ old_values) × (m.frames ≤ frames) × AreInOrder m.old_values frames low few (ms ++ m ∷ [])
innermost old_values frames low few [] m h = (h.2.0, h.2.1, (h.0, h.1, ((let le : m.old_values ≤ m.old_values = omega arith in le), h.2.1)))
innermost old_values frames low few (k ∷ ms) m h =
    let r = innermost old_values frames k.old_values k.frames ms m h.2 in
    (r.0, r.1, (h.0, h.1, r.2))

-- ---- an assignment

last_old : (old_values : List OldValueRs) (o : OldValueRs) → reverse (old_values_of (old_values ++ o ∷ [])) ≡ old_value_of o ∷ reverse (old_values_of old_values)
last_old old_values o = ap reverse (map-append old_value_of old_values (o ∷ [])) ∙ reverse-append (old_values_of old_values) (old_value_of o ∷ [])

pub length_olds : (old_values : List OldValueRs) → length (reverse (old_values_of old_values)) ≡ length old_values
length_olds old_values = length-reverse (old_values_of old_values) ∙ length-map old_values old_value_of

copies_after_value : (counts : List ℕ) (frames low few n k i : ℕ) (v : Value) (R : List OldValue) (vss : Values) (ms : List SavepointRs) → AreInOrder (length R) frames low few ms → map (copy_at (record { frame = k; number = i; value = value_at k i vss } ∷ R) (with_value k i v vss)) (savepoints_from counts n ms) ≡ map (copy_at R vss) (savepoints_from counts n ms)
copies_after_value counts frames low few n k i v R vss [] h = refl
copies_after_value counts frames low few n k i v R vss (m ∷ ms) h =
    let r = reach (length R) frames m.old_values m.frames ms h.2 in
    ap (λ c. c ∷ map (copy_at (record { frame = k; number = i; value = value_at k i vss } ∷ R) (with_value k i v vss)) (savepoints_from counts (n + 1) ms)) (copy_after_value (savepoint_of counts n m) R vss k i v r.0)
    ∙ ap (λ cs. copy_at R vss (savepoint_of counts n m) ∷ cs) (copies_after_value counts frames m.old_values m.frames (n + 1) k i v R vss ms h.2)

pub remembered_after_value : (frames k i : ℕ) (v : Value) (old_values : List OldValueRs) (vss no_undo : Values) (bss : List (List Buffer)) (ms : List SavepointRs) → AreInOrder (length old_values) frames 0 0 ms → remembered (with_value k i v vss) no_undo bss (old_values ++ record { frame = k; number = i; value = value_at k i vss } ∷ []) ms ≡ record (remembered vss no_undo bss old_values ms) { undoable = with_value k i v vss }
remembered_after_value frames k i v old_values vss no_undo bss ms h =
    let o : OldValueRs = record { frame = k; number = i; value = value_at k i vss } in
    let N = counts_of bss in
    ap (λ (cs : List Copy). let m : Remembered = record { undoable = with_value k i v vss; no_undo = no_undo; buffers = bss; copies = cs } in m)
    (ap (λ R. map (copy_at R (with_value k i v vss)) (savepoints_from N 0 ms)) (last_old old_values o)
    ∙ copies_after_value N frames 0 0 0 k i v (reverse (old_values_of old_values)) vss ms (subst (λ l. AreInOrder l frames 0 0 ms) (sym (length_olds old_values)) h))

-- ---- the number of buffers

take_inner : {A : Type 0} (a b : ℕ) (xs : List A) → a ≤ b → take a (take b xs) ≡ take a xs
take_inner zero b xs le = refl
take_inner (suc a) zero xs le = absurd (omega (arith, le))
take_inner (suc a) (suc b) [] le = refl
take_inner (suc a) (suc b) (x ∷ xs) le = ap (λ ys. x ∷ ys) (take_inner a b xs (omega (arith, le)))

same_part : (a b : ℕ) (xs ys : List ℕ) → a ≤ b → take b xs ≡ take b ys → take a xs ≡ take a ys
same_part a b xs ys le e = sym (take_inner a b xs le) ∙ ap (take a) e ∙ take_inner a b ys le

-- a savepoint depends only on the procedures that were open when it was made
pub savepoints_same : (counts counts' : List ℕ) (old_values frames low few n : ℕ) (ms : List SavepointRs) → take frames counts ≡ take frames counts' → AreInOrder old_values frames low few ms → savepoints_from counts n ms ≡ savepoints_from counts' n ms
savepoints_same counts counts' old_values frames low few n [] e h = refl
savepoints_same counts counts' old_values frames low few n (m ∷ ms) e h =
    let r = reach old_values frames m.old_values m.frames ms h.2 in
    ap (λ ns. let s : Savepoint = record { depth = n + 1; made = m.made; old_values = m.old_values; pending = contents_with m.pending.items ns } in s ∷ savepoints_from counts (n + 1) ms) (same_part m.frames frames counts counts' r.1 e)
    ∙ ap (λ ss. savepoint_of counts' n m ∷ ss) (savepoints_same counts counts' old_values frames m.old_values m.frames (n + 1) ms e h.2)

pub take_all : {A : Type 0} (n : ℕ) (xs : List A) → length xs ≤ n → take n xs ≡ xs
take_all zero [] le = refl
take_all zero (x ∷ xs) le = absurd (omega (arith, le))
take_all (suc n) [] le = refl
take_all (suc n) (x ∷ xs) le = ap (λ ys. x ∷ ys) (take_all n xs (omega (arith, le)))

pub length_contents : (css : List (List Content)) (ns : List ℕ) → length (contents_with css ns) ≡ length ns
length_contents css [] = refl
length_contents [] (n ∷ ns) = ap suc (length_contents [] ns)
length_contents (cs ∷ css) (n ∷ ns) = ap suc (length_contents css ns)

pub length_counts : (bss : List (List Buffer)) → length (counts_of bss) ≡ length bss
length_counts bss = length-map bss (λ (bs : List Buffer). length bs)

length_taken : {A : Type 0} (n : ℕ) (xs : List A) → n ≤ length xs → length (take n xs) ≡ n
length_taken zero xs le = refl
length_taken (suc n) [] le = absurd (omega (arith, le))
length_taken (suc n) (x ∷ xs) le = ap suc (length_taken n xs (omega (arith, le)))

-- the pending records of a savepoint have one entry for each procedure that was open
pub length_pending : (counts : List ℕ) (n : ℕ) (m : SavepointRs) → m.frames ≤ length counts → length (savepoint_of counts n m).pending ≡ m.frames
length_pending counts n m le = length_contents m.pending.items (take m.frames counts) ∙ length_taken m.frames counts le

-- ---- one more savepoint

marks_more : (counts : List ℕ) (n : ℕ) (ms : List SavepointRs) (m : SavepointRs) → savepoints_from counts n (ms ++ m ∷ []) ≡ savepoints_from counts n ms ++ savepoint_of counts (n + length ms) m ∷ []
marks_more counts n [] m = ap (λ k. savepoint_of counts k m ∷ []) (let e : n ≡ n + 0 = omega arith in e)
marks_more counts n (k ∷ ms) m = ap (λ xs. savepoint_of counts n k ∷ xs) (marks_more counts (n + 1) ms m ∙ ap (λ d. savepoints_from counts (n + 1) ms ++ savepoint_of counts d m ∷ []) (let e : n + 1 + length ms ≡ n + length (k ∷ ms) = omega arith in e))

pub length_marks : (counts : List ℕ) (n : ℕ) (ms : List SavepointRs) → length (savepoints_from counts n ms) ≡ length ms
length_marks counts n [] = refl
length_marks counts n (m ∷ ms) = ap suc (length_marks counts (n + 1) ms)

-- the copies, with that of one more savepoint
pub copies_more : (counts : List ℕ) (R : List OldValue) (vss : Values) (ms : List SavepointRs) (m : SavepointRs) → map (copy_at R vss) (savepoints_from counts 0 (ms ++ m ∷ [])) ≡ map (copy_at R vss) (savepoints_from counts 0 ms) ++ copy_at R vss (savepoint_of counts (length ms) m) ∷ []
copies_more counts R vss ms m =
    ap (map (copy_at R vss)) (marks_more counts 0 ms m ∙ ap (λ k. savepoints_from counts 0 ms ++ savepoint_of counts k m ∷ []) (let e : 0 + length ms ≡ length ms = omega arith in e))
    ∙ map-append (copy_at R vss) (savepoints_from counts 0 ms) (savepoint_of counts (length ms) m ∷ [])

pub without_more : (cs : List Copy) (c : Copy) → without_last (cs ++ c ∷ []) ≡ cs
without_more [] c = refl
without_more (a ∷ []) c = refl
without_more (a ∷ b ∷ cs) c = ap (λ xs. a ∷ xs) (without_more (b ∷ cs) c)

pub last_more : (cs : List Copy) (c : Copy) → last_copy (cs ++ c ∷ []) ≡ Some c
last_more [] c = refl
last_more (a ∷ []) c = refl
last_more (a ∷ b ∷ cs) c = last_more (b ∷ cs) c

-- ---- what a copy has

pub length_saved : (vss : Values) (css : List (List Content)) → length css ≤ length vss → length (saved_of_all vss css) ≡ length css
length_saved [] [] le = refl
length_saved [] (cs ∷ css) le = absurd (omega (arith, le))
length_saved (vs ∷ vss) [] le = refl
length_saved (vs ∷ vss) (cs ∷ css) le = ap suc (length_saved vss css (omega (arith, le)))

-- the number of its procedures
pub length_copy : (counts : List ℕ) (R : List OldValue) (vss : Values) (n : ℕ) (m : SavepointRs) → m.frames ≤ length counts → m.frames ≤ length vss → length (copy_at R vss (savepoint_of counts n m)).frames ≡ m.frames
length_copy counts R vss n m le1 le2 =
    let back = restored_to m.old_values R vss in
    let s = savepoint_of counts n m in
    let p = length_pending counts n m le1 in
    let b = length_back m.old_values R vss in
    length-reverse (saved_of_all back s.pending) ∙ length_saved back s.pending (omega (arith, p, b, le2)) ∙ p

variables_saved : (vss : Values) (css : List (List Content)) → length css ≡ length vss → map (λ (x : Saved). x.undoable) (saved_of_all vss css) ≡ vss
variables_saved [] css e = refl
variables_saved (vs ∷ vss) [] e = absurd (omega (arith, e))
variables_saved (vs ∷ vss) (cs ∷ css) e = ap (λ xs. vs ∷ xs) (variables_saved vss css (omega (arith, e)))

contents_saved : (vss : Values) (css : List (List Content)) → length css ≡ length vss → map (λ (x : Saved). x.contents) (saved_of_all vss css) ≡ css
contents_saved [] [] e = refl
contents_saved [] (cs ∷ css) e = absurd (omega (arith, e))
contents_saved (vs ∷ vss) [] e = absurd (omega (arith, e))
contents_saved (vs ∷ vss) (cs ∷ css) e = ap (λ xs. cs ∷ xs) (contents_saved vss css (omega (arith, e)))

pub variables_are : (m : Savepoint) (vss : Values) (R : List OldValue) → length m.pending ≡ length vss → variables_in (copy_at R vss m) ≡ restored_to m.old_values R vss
variables_are m vss R e =
    let back = restored_to m.old_values R vss in
    ap reverse (map_reverse (λ (x : Saved). x.undoable) (saved_of_all back m.pending))
    ∙ reverse-reverse (map (λ (x : Saved). x.undoable) (saved_of_all back m.pending))
    ∙ variables_saved back m.pending (e ∙ sym (length_back m.old_values R vss))

pub contents_are : (m : Savepoint) (vss : Values) (R : List OldValue) → length m.pending ≡ length vss → contents_in (copy_at R vss m) ≡ m.pending
contents_are m vss R e =
    let back = restored_to m.old_values R vss in
    ap reverse (map_reverse (λ (x : Saved). x.contents) (saved_of_all back m.pending))
    ∙ reverse-reverse (map (λ (x : Saved). x.contents) (saved_of_all back m.pending))
    ∙ contents_saved back m.pending (e ∙ sym (length_back m.old_values R vss))

-- ---- a level that begins

saved_is : (vss : Values) (bss : List (List Buffer)) → saved_of_all vss (map saved_contents bss) ≡ saved_now vss bss
saved_is [] bss = refl
saved_is (vs ∷ vss) [] = refl
saved_is (vs ∷ vss) (bs ∷ bss) = ap (λ xs. let s : Saved = record { undoable = vs; contents = saved_contents bs } in s ∷ xs) (saved_is vss bss)

abbrev copy_of_parts : ℕ → ℕ → List Saved → Copy
copy_of_parts d made fs = record { depth = d; made = made; frames = fs }

pub remembered_entered : (made : ℕ) (old_values : List OldValueRs) (vss no_undo : Values) (bss : List (List Buffer)) (ms : List SavepointRs) (m : SavepointRs) → m.made ≡ made → m.frames ≡ length vss → m.old_values ≡ length old_values → length bss ≡ length vss → contents_with m.pending.items (counts_of bss) ≡ map saved_contents bss →
    remembered vss no_undo bss old_values (ms ++ m ∷ []) ≡ entered made (remembered vss no_undo bss old_values ms)
remembered_entered made old_values vss no_undo bss ms m e0 e1 e2 even stored =
    let R = reverse (old_values_of old_values) in
    let N = counts_of bss in
    let stay : restored_to m.old_values R vss ≡ vss = values_stay m.old_values R vss (let e = length_olds old_values in omega (arith, e, e2)) in
    let whole : take m.frames N ≡ N = take_all m.frames N (let l = length_counts bss in omega (arith, l, e1, even)) in
    let frames_are : reverse (saved_of_all (restored_to m.old_values R vss) (contents_with m.pending.items (take m.frames N))) ≡ reverse (saved_now vss bss) =
    ap (λ xs. reverse (saved_of_all xs (contents_with m.pending.items (take m.frames N)))) stay
    ∙ ap (λ ns. reverse (saved_of_all vss (contents_with m.pending.items ns))) whole
    ∙ ap (λ css. reverse (saved_of_all vss css)) stored ∙ ap reverse (saved_is vss bss) in
    let depth_is : length ms + 1 ≡ length (map (copy_at R vss) (savepoints_from N 0 ms)) + 1 = let a = length-map (savepoints_from N 0 ms) (copy_at R vss) in let b = length_marks N 0 ms in omega (arith, a, b) in
    ap (λ (cs : List Copy). let m : Remembered = record { undoable = vss; no_undo = no_undo; buffers = bss; copies = cs } in m)
    (copies_more N R vss ms m
    ∙ ap (λ (fs : List Saved). map (copy_at R vss) (savepoints_from N 0 ms) ++ copy_of_parts (length ms + 1) m.made fs ∷ []) frames_are
    ∙ ap (λ d. map (copy_at R vss) (savepoints_from N 0 ms) ++ copy_of_parts d m.made (reverse (saved_now vss bss)) ∷ []) depth_is
    ∙ ap (λ k. map (copy_at R vss) (savepoints_from N 0 ms) ++ copy_of_parts (length (map (copy_at R vss) (savepoints_from N 0 ms)) + 1) k (reverse (saved_now vss bss)) ∷ []) e0)

-- ---- the code's order, and what it denotes

pub order_entered : (old_values frames : ℕ) (ms ms' : List SavepointRs) (m : SavepointRs) → ms' ≡ ms ++ m ∷ [] → m.old_values ≡ old_values → m.frames ≡ frames → AreInOrder old_values frames 0 0 ms → AreInOrder old_values frames 0 0 ms'
order_entered old_values frames ms ms' m is e1 e2 h = subst (λ x. AreInOrder old_values frames 0 0 x) (sym is) (one_more old_values frames 0 0 ms m e1 e2 h)

pub view_entered : (made : ℕ) (old_values : List OldValueRs) (vss no_undo : Values) (bss : List (List Buffer)) (ms ms' : List SavepointRs) (m : SavepointRs) (now : Remembered) → now ≡ remembered vss no_undo bss old_values ms → ms' ≡ ms ++ m ∷ [] → m.made ≡ made → m.frames ≡ length vss → m.old_values ≡ length old_values → length bss ≡ length vss → contents_with m.pending.items (counts_of bss) ≡ map saved_contents bss →
    remembered vss no_undo bss old_values ms' ≡ entered made now
view_entered made old_values vss no_undo bss ms ms' m now is_now is e0 e1 e2 even stored =
    ap (remembered vss no_undo bss old_values) is
    ∙ remembered_entered made old_values vss no_undo bss ms m e0 e1 e2 even stored
    ∙ ap (entered made) (sym is_now)

pub order_left : (old_values frames : ℕ) (ms ms' : List SavepointRs) (m : SavepointRs) → ms ≡ ms' ++ m ∷ [] → AreInOrder old_values frames 0 0 ms → AreInOrder old_values frames 0 0 ms'
order_left old_values frames ms ms' m is h = one_less old_values frames 0 0 ms' m (subst (λ x. AreInOrder old_values frames 0 0 x) is h)

pub order_cleared : (old_values frames : ℕ) (ms : List SavepointRs) → length ms ≡ 0 → AreInOrder old_values frames 0 0 ms → AreInOrder 0 frames 0 0 ms
order_cleared old_values frames [] e h = ((let le : 0 ≤ 0 = omega arith in le), h.1)
order_cleared old_values frames (m ∷ ms) e h = absurd (omega (arith, e))

pub order_set : (frames k i : ℕ) (v : Value) (vss vss' : Values) (old_values old_values' : List OldValueRs) (o : OldValueRs) (ms : List SavepointRs) → vss' ≡ with_value k i v vss → old_values' ≡ old_values ++ o ∷ [] → AreInOrder (length old_values) (length vss) 0 0 ms → AreInOrder (length old_values') (length vss') 0 0 ms
order_set frames k i v vss vss' old_values old_values' o ms is_vss is_olds h =
    let l : length vss' ≡ length vss = ap length is_vss ∙ length_with k i v vss in
    let le : length old_values ≤ length old_values' = let e = ap length is_olds in let f = length-append old_values (o ∷ []) in omega (arith, e, f) in
    subst (λ n. AreInOrder (length old_values') n 0 0 ms) (sym l) (more (length old_values) (length old_values') (length vss) 0 0 ms le h)

pub view_set : (k i : ℕ) (v : Value) (vss vss' no_undo : Values) (bss : List (List Buffer)) (old_values old_values' : List OldValueRs) (o : OldValueRs) (ms : List SavepointRs) (now : Remembered) → now ≡ remembered vss no_undo bss old_values ms → vss' ≡ with_value k i v vss → old_values' ≡ old_values ++ o ∷ [] → o.frame ≡ k → o.number ≡ i → o.value ≡ value_at k i vss → AreInOrder (length old_values) (length vss) 0 0 ms → remembered vss' no_undo bss old_values' ms ≡ record now { undoable = with_value k i v now.undoable }
view_set k i v vss vss' no_undo bss old_values old_values' o ms now is_now is_vss is_olds e0 e1 e2 h =
    ap (λ x. remembered x no_undo bss old_values' ms) is_vss
    ∙ ap (λ x. remembered (with_value k i v vss) no_undo bss x ms) (is_olds
    ∙ ap (λ n. let x : OldValueRs = record { frame = n; number = o.number; value = o.value } in old_values ++ x ∷ []) e0
    ∙ ap (λ n. let x : OldValueRs = record { frame = k; number = n; value = o.value } in old_values ++ x ∷ []) e1
    ∙ ap (λ n. let x : OldValueRs = record { frame = k; number = i; value = n } in old_values ++ x ∷ []) e2)
    ∙ remembered_after_value (length vss) k i v old_values vss no_undo bss ms h
    ∙ ap (λ (m : Remembered). record m { undoable = with_value k i v m.undoable }) (sym is_now)

pub set_is : (x : Variable) (v : Value) (now : Remembered) (k n : ℕ) → x.undoable ≡ true → k ≡ frame_of x.external n → n ≡ length now.undoable → record now { undoable = with_value k x.number v now.undoable } ≡ set_variable x v now
set_is x v now k n und is_k is_n =
    ap (λ k. record now { undoable = with_value k x.number v now.undoable }) (is_k ∙ ap (frame_of x.external) is_n)
    ∙ ap (λ b. set_as b (frame_of x.external (length now.undoable)) x.number v now) (sym und)

-- ---- the number of open levels

pub levels : (old_values : List OldValueRs) (vss no_undo : Values) (bss : List (List Buffer)) (ms : List SavepointRs) → length (remembered vss no_undo bss old_values ms).copies ≡ length ms
levels old_values vss no_undo bss ms = length-map (savepoints_from (counts_of bss) 0 ms) (copy_at (reverse (old_values_of old_values)) vss) ∙ length_marks (counts_of bss) 0 ms

pub depth_more : (ms ms' : List SavepointRs) (m : SavepointRs) (d d' : ℕ) → d ≡ length ms → d' ≡ d + 1 → ms' ≡ ms ++ m ∷ [] → d' ≡ length ms'
depth_more ms ms' m d d' e e' is = let a = ap length is in let b = length-append ms (m ∷ []) in omega (arith, a, b, e, e')

pub depth_less : (ms ms' : List SavepointRs) (m : SavepointRs) (d d' : ℕ) → d ≡ length ms → d' ≡ d - 1 → ms ≡ ms' ++ m ∷ [] → d' ≡ length ms'
depth_less ms ms' m d d' e e' is = let a = ap length is in let b = length-append ms' (m ∷ []) in omega (arith, a, b, e, e')

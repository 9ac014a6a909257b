-- The innermost copy is restored.
use Rattle.std.proofs.lemmas.List.{length-append}
use Rattle.std.proofs.Common.{◌≡◌, ℕ, ◌+◌, ◌-◌, List, [], ◌∷◌, ◌++◌, length, Some, refl, sym, ap, ◌∙◌, subst, arith}
use Rattle.std.specs.Prelude.{map, reverse, slice_get}
use Rattle.block_meaning.specs.State.{Buffer, Content, Copy}
use Rattle.client_memory.specs.Undo.{OldValue, Values, restored_to, old_values_before, copy_at}
use Rattle.client_memory.specs.declared.memory.OldValue.{OldValue as OldValueRs}
use Rattle.client_memory.specs.declared.memory.Savepoint.{Savepoint as SavepointRs}
use Rattle.client_memory.specs.OldValues.{old_values_of}
use Rattle.client_memory.specs.Savepoints.{contents_with, counts_of, savepoint_of, savepoints_from, remembered, AreInOrder}
use Rattle.client_memory.specs.Memory.{Remembered, last_copy, variables_in, contents_in, buffers_restored, restored_from, restored, HasAll, IsWhole}
use Rattle.client_memory.proofs.Copies.{gone, copy_after_back, length_back}
use Rattle.client_memory.proofs.BufferLists.{restored_with, counts_restored}
use Rattle.client_memory.proofs.Remembers.{reach, innermost, length_olds, take_all, length_counts, length_pending, copies_more, last_more, length_copy, variables_are, contents_are}

copies_after_back : (counts : List ℕ) (frames low few n at : ℕ) (R : List OldValue) (vss : Values) (ms : List SavepointRs) → AreInOrder at frames low few ms → map (copy_at (old_values_before at R) (restored_to at R vss)) (savepoints_from counts n ms) ≡ map (copy_at R vss) (savepoints_from counts n ms)
copies_after_back counts frames low few n at R vss [] h = refl
copies_after_back counts frames low few n at R vss (m ∷ ms) h =
    let r = reach at frames m.old_values m.frames ms h.2 in
    ap (λ c. c ∷ map (copy_at (old_values_before at R) (restored_to at R vss)) (savepoints_from counts (n + 1) ms)) (copy_after_back (savepoint_of counts n m) at R vss r.0)
    ∙ ap (λ cs. copy_at R vss (savepoint_of counts n m) ∷ cs) (copies_after_back counts frames m.old_values m.frames (n + 1) at R vss ms h.2)

-- the innermost copy has all procedures
frames_all : (old_values : List OldValueRs) (vss no_undo : Values) (bss : List (List Buffer)) (ms : List SavepointRs) (m : SavepointRs) → length bss ≡ length vss → AreInOrder (length old_values) (length vss) 0 0 (ms ++ m ∷ []) → IsWhole (remembered vss no_undo bss old_values (ms ++ m ∷ [])) → m.frames ≡ length vss
frames_all old_values vss no_undo bss ms m even order whole =
    let R = reverse (old_values_of old_values) in
    let N = counts_of bss in
    let c = copy_at R vss (savepoint_of N (length ms) m) in
    let i = innermost (length old_values) (length vss) 0 0 ms m order in
    let last_is : last_copy (map (copy_at R vss) (savepoints_from N 0 (ms ++ m ∷ []))) ≡ Some c = ap last_copy (copies_more N R vss ms m) ∙ last_more (map (copy_at R vss) (savepoints_from N 0 ms)) c in
    let all : length c.frames ≡ length vss = subst (λ x. HasAll x vss) last_is whole in
    sym (length_copy N R vss (length ms) m (let l = length_counts bss in omega (arith, l, even, i.1)) i.1) ∙ all

abbrev with_parts : Values → Values → List (List Buffer) → List Copy → Remembered
with_parts vss no_undo bss cs = record { undoable = vss; no_undo = no_undo; buffers = bss; copies = cs }

remembered_back : (old_values old_values' : List OldValueRs) (vss vss' no_undo : Values) (bss bss' : List (List Buffer)) (ms : List SavepointRs) (m : SavepointRs) → length bss ≡ length vss → AreInOrder (length old_values) (length vss) 0 0 (ms ++ m ∷ []) → vss' ≡ restored_to m.old_values (reverse (old_values_of old_values)) vss → reverse (old_values_of old_values') ≡ old_values_before m.old_values (reverse (old_values_of old_values)) → bss' ≡ buffers_restored m.pending.items bss → IsWhole (remembered vss no_undo bss old_values (ms ++ m ∷ [])) →
    remembered vss' no_undo bss' old_values' (ms ++ m ∷ []) ≡ restored (remembered vss no_undo bss old_values (ms ++ m ∷ []))
remembered_back old_values old_values' vss vss' no_undo bss bss' ms m even order is_vss is_olds is_bss whole =
    let R = reverse (old_values_of old_values) in
    let N = counts_of bss in
    let s = savepoint_of N (length ms) m in
    let c = copy_at R vss s in
    let i = innermost (length old_values) (length vss) 0 0 ms m order in
    let all = frames_all old_values vss no_undo bss ms m even order whole in
    let count : length N ≡ length vss = length_counts bss ∙ even in
    let last_is : last_copy (map (copy_at R vss) (savepoints_from N 0 (ms ++ m ∷ []))) ≡ Some c = ap last_copy (copies_more N R vss ms m) ∙ last_more (map (copy_at R vss) (savepoints_from N 0 ms)) c in
    let long : length s.pending ≡ length vss = length_pending N (length ms) m (omega (arith, count, i.1)) ∙ all in
    let vars : variables_in c ≡ vss' = variables_are s vss R long ∙ sym is_vss in
    let conts : contents_in c ≡ contents_with m.pending.items N = contents_are s vss R long ∙ ap (contents_with m.pending.items) (take_all m.frames N (omega (arith, all, count))) in
    let bufs : buffers_restored (contents_in c) bss ≡ bss' = ap (λ css. buffers_restored css bss) conts ∙ restored_with m.pending.items bss ∙ sym is_bss in
    let counts_same : counts_of bss' ≡ N = ap counts_of is_bss ∙ counts_restored m.pending.items bss in
    let old = map (copy_at R vss) (savepoints_from N 0 (ms ++ m ∷ [])) in
    let copies_are : map (copy_at (reverse (old_values_of old_values')) vss') (savepoints_from (counts_of bss') 0 (ms ++ m ∷ [])) ≡ old =
    ap (λ ns. map (copy_at (reverse (old_values_of old_values')) vss') (savepoints_from ns 0 (ms ++ m ∷ []))) counts_same
    ∙ ap (λ r. map (copy_at r vss') (savepoints_from N 0 (ms ++ m ∷ []))) is_olds
    ∙ ap (λ x. map (copy_at (old_values_before m.old_values R) x) (savepoints_from N 0 (ms ++ m ∷ []))) is_vss
    ∙ copies_after_back N (length vss) 0 0 0 m.old_values R vss (ms ++ m ∷ []) i.2 in
    ap (with_parts vss' no_undo bss') copies_are
    ∙ ap (λ x. with_parts x no_undo bss' old) (sym vars)
    ∙ ap (λ x. with_parts (variables_in c) no_undo x old) (sym bufs)
    ∙ ap (λ x. restored_from x (remembered vss no_undo bss old_values (ms ++ m ∷ []))) (sym last_is)

order_after_back : (old_values old_values' : List OldValueRs) (vss vss' : Values) (ms : List SavepointRs) (m : SavepointRs) → AreInOrder (length old_values) (length vss) 0 0 (ms ++ m ∷ []) → vss' ≡ restored_to m.old_values (reverse (old_values_of old_values)) vss → reverse (old_values_of old_values') ≡ old_values_before m.old_values (reverse (old_values_of old_values)) → AreInOrder (length old_values') (length vss') 0 0 (ms ++ m ∷ [])
order_after_back old_values old_values' vss vss' ms m order is_vss is_olds =
    let R = reverse (old_values_of old_values) in
    let i = innermost (length old_values) (length vss) 0 0 ms m order in
    let l1 : length old_values' ≡ m.old_values = sym (length_olds old_values') ∙ ap length is_olds ∙ gone m.old_values R (let e = length_olds old_values in omega (arith, e, i.0)) in
    let l2 : length vss' ≡ length vss = ap length is_vss ∙ length_back m.old_values R vss in
    subst (λ n. AreInOrder (length old_values') n 0 0 (ms ++ m ∷ [])) (sym l2) (subst (λ n. AreInOrder n (length vss) 0 0 (ms ++ m ∷ [])) (sym l1) i.2)

pub view_back : (old_values old_values' : List OldValueRs) (vss vss' no_undo : Values) (bss bss' : List (List Buffer)) (ms ms' ms'' : List SavepointRs) (m : SavepointRs) (now : Remembered) → now ≡ remembered vss no_undo bss old_values ms → ms ≡ ms' ++ m ∷ [] → ms'' ≡ ms' ++ m ∷ [] → length bss ≡ length vss → AreInOrder (length old_values) (length vss) 0 0 ms → vss' ≡ restored_to m.old_values (reverse (old_values_of old_values)) vss → reverse (old_values_of old_values') ≡ old_values_before m.old_values (reverse (old_values_of old_values)) → bss' ≡ buffers_restored m.pending.items bss → IsWhole now →
    remembered vss' no_undo bss' old_values' ms'' ≡ restored now
view_back old_values old_values' vss vss' no_undo bss bss' ms ms' ms'' m now is_now is is' even h is_vss is_olds is_bss whole =
    ap (remembered vss' no_undo bss' old_values') is'
    ∙ remembered_back old_values old_values' vss vss' no_undo bss bss' ms' m even (subst (λ x. AreInOrder (length old_values) (length vss) 0 0 x) is h) is_vss is_olds is_bss (subst IsWhole (is_now ∙ ap (remembered vss no_undo bss old_values) is) whole)
    ∙ ap (λ x. restored (remembered vss no_undo bss old_values x)) (sym is) ∙ ap restored (sym is_now)

pub order_back : (old_values old_values' : List OldValueRs) (vss vss' : Values) (ms ms' ms'' : List SavepointRs) (m : SavepointRs) → ms ≡ ms' ++ m ∷ [] → ms'' ≡ ms' ++ m ∷ [] → AreInOrder (length old_values) (length vss) 0 0 ms → vss' ≡ restored_to m.old_values (reverse (old_values_of old_values)) vss → reverse (old_values_of old_values') ≡ old_values_before m.old_values (reverse (old_values_of old_values)) → AreInOrder (length old_values') (length vss') 0 0 ms''
order_back old_values old_values' vss vss' ms ms' ms'' m is is' h is_vss is_olds =
    subst (λ x. AreInOrder (length old_values') (length vss') 0 0 x) (sym is')
    (order_after_back old_values old_values' vss vss' ms' m (subst (λ x. AreInOrder (length old_values) (length vss) 0 0 x) is h) is_vss is_olds)

pub length_buffers_restored : (css : List (List Content)) (bss bss' : List (List Buffer)) (vss vss' : Values) (at : ℕ) (R : List OldValue) → length bss ≡ length vss → bss' ≡ buffers_restored css bss → vss' ≡ restored_to at R vss → length bss' ≡ length vss'
length_buffers_restored css bss bss' vss vss' at R even is_bss is_vss =
    sym (length_counts bss') ∙ ap (λ x. length (counts_of x)) is_bss ∙ ap length (counts_restored css bss) ∙ length_counts bss ∙ even ∙ sym (ap length is_vss ∙ length_back at R vss)

-- the last savepoint
seam : (ms : List SavepointRs) (m : SavepointRs) → slice_get (ms ++ m ∷ []) (length ms) ≡ Some m
seam [] m = refl
seam (k ∷ ms) m = seam ms m

some_same : (k m : SavepointRs) → Some m ≡ Some k → k ≡ m
some_same k m e = let is : m ≡ k = cc in sym is

pub last_item : (ms ms' : List SavepointRs) (m k : SavepointRs) → ms ≡ ms' ++ m ∷ [] → slice_get ms (length ms - 1) ≡ Some k → k ≡ m
last_item ms ms' m k is e =
    let at : length (ms' ++ m ∷ []) - 1 ≡ length ms' = let l = length-append ms' (m ∷ []) in omega (arith, l) in
    some_same k m (sym (seam ms' m) ∙ ap (slice_get (ms' ++ m ∷ [])) (sym at) ∙ subst (λ (xs : List SavepointRs). slice_get xs (length xs - 1) ≡ Some k) is e)

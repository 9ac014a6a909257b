-- A procedure begins or ends: the savepoints name outer procedures alone.
use Rattle.std.proofs.Common.{◌≡◌, ℕ, zero, suc, ◌+◌, ◌-◌, ◌<◌, ◌≤◌, List, [], ◌∷◌, ◌++◌, length, take, Some, None, refl, sym, ap, ◌∙◌, subst, arith}
use Rattle.std.specs.Prelude.{map, reverse, slice_get}
use Rattle.std.proofs.lemmas.List.{length-append, length-take-le, map-append}
use Rattle.abl_base.specs.declared.value.Value.{Value}
use Rattle.block_meaning.specs.State.{Buffer, Copy}
use Rattle.client_memory.specs.Undo.{OldValue, Values, copy_at}
use Rattle.client_memory.specs.declared.memory.OldValue.{OldValue as OldValueRs}
use Rattle.client_memory.specs.declared.memory.Savepoint.{Savepoint as SavepointRs}
use Rattle.client_memory.specs.OldValues.{old_values_of}
use Rattle.client_memory.specs.Savepoints.{AreInOrder, counts_of, remembered, savepoint_of, savepoints_from, innermost_frames}
use Rattle.client_memory.specs.Memory.{Remembered, begun, ended, IsOuter, HasFewer, last_copy}
use Rattle.client_memory.proofs.Copies.{copy_after_run}
use Rattle.client_memory.proofs.Remembers.{reach, innermost, length_olds, length_counts, take_all, savepoints_same, copies_more, last_more, length_copy, length_pending}

-- ---- a procedure that begins

more_frames : (old_values frames frames' low few : ℕ) (ms : List SavepointRs) → frames ≤ frames' → AreInOrder old_values frames low few ms → AreInOrder old_values frames' low few ms
more_frames old_values frames frames' low few [] le h = (h.0, omega (arith, h.1, le))
more_frames old_values frames frames' low few (m ∷ ms) le h = (h.0, h.1, more_frames old_values frames frames' m.old_values m.frames ms le h.2)

copies_after_run : (counts : List ℕ) (low few n : ℕ) (R : List OldValue) (vss : Values) (vs : List Value) (ms : List SavepointRs) → length counts ≡ length vss → AreInOrder (length R) (length vss) low few ms → map (copy_at R (vss ++ vs ∷ [])) (savepoints_from counts n ms) ≡ map (copy_at R vss) (savepoints_from counts n ms)
copies_after_run counts low few n R vss vs [] even h = refl
copies_after_run counts low few n R vss vs (m ∷ ms) even h =
    let r = reach (length R) (length vss) m.old_values m.frames ms h.2 in
    let p = length_pending counts n m (omega (arith, even, r.1)) in
    ap (λ c. c ∷ map (copy_at R (vss ++ vs ∷ [])) (savepoints_from counts (n + 1) ms)) (copy_after_run (savepoint_of counts n m) R vss vs (omega (arith, p, r.1)))
    ∙ ap (λ cs. copy_at R vss (savepoint_of counts n m) ∷ cs) (copies_after_run counts m.old_values m.frames (n + 1) R vss vs ms even h.2)

take_front : {A : Type 0} (xs ys : List A) → take (length xs) (xs ++ ys) ≡ xs
take_front [] ys = refl
take_front (x ∷ xs) ys = ap (λ zs. x ∷ zs) (take_front xs ys)

counts_begun : (bss : List (List Buffer)) (bs : List Buffer) (n : ℕ) → length bss ≡ n → take n (counts_of (bss ++ bs ∷ [])) ≡ take n (counts_of bss)
counts_begun bss bs n e =
    let l : length (counts_of bss) ≡ n = length_counts bss ∙ e in
    ap (take n) (map-append (λ (bs : List Buffer). length bs) bss (bs ∷ []))
    ∙ ap (λ k. take k (counts_of bss ++ length bs ∷ [])) (sym l) ∙ take_front (counts_of bss) (length bs ∷ [])
    ∙ sym (take_all n (counts_of bss) (omega (arith, l)))

pub view_begun : (us ks : List Value) (bs : List Buffer) (old_values : List OldValueRs) (vss vss' no_undo no_undo' : Values) (bss bss' : List (List Buffer)) (ms : List SavepointRs) (now : Remembered) → remembered vss no_undo bss old_values ms ≡ now → vss' ≡ vss ++ us ∷ [] → no_undo' ≡ no_undo ++ ks ∷ [] → bss' ≡ bss ++ bs ∷ [] → length bss ≡ length vss → AreInOrder (length old_values) (length vss) 0 0 ms →
    remembered vss' no_undo' bss' old_values ms ≡ begun us ks bs now
view_begun us ks bs old_values vss vss' no_undo no_undo' bss bss' ms now is_now e1 e2 e3 even h =
    let R = reverse (old_values_of old_values) in
    let longer = vss ++ us ∷ [] in
    let order : AreInOrder (length R) (length vss) 0 0 ms = subst (λ l. AreInOrder l (length vss) 0 0 ms) (sym (length_olds old_values)) h in
    ap (λ x. remembered x no_undo' bss' old_values ms) e1 ∙ ap (λ x. remembered longer x bss' old_values ms) e2 ∙ ap (λ x. remembered longer (no_undo ++ ks ∷ []) x old_values ms) e3
    ∙ ap (λ (cs : List Copy). let m : Remembered = record { undoable = longer; no_undo = no_undo ++ ks ∷ []; buffers = bss ++ bs ∷ []; copies = cs } in m)
    (ap (map (copy_at R longer)) (savepoints_same (counts_of (bss ++ bs ∷ [])) (counts_of bss) (length R) (length vss) 0 0 0 ms (counts_begun bss bs (length vss) even) order)
    ∙ copies_after_run (counts_of bss) 0 0 0 R vss us ms (length_counts bss ∙ even) order)
    ∙ ap (begun us ks bs) is_now

pub order_begun : (us : List Value) (old_values : ℕ) (vss vss' : Values) (ms : List SavepointRs) → vss' ≡ vss ++ us ∷ [] → AreInOrder old_values (length vss) 0 0 ms → AreInOrder old_values (length vss') 0 0 ms
order_begun us old_values vss vss' ms e h = more_frames old_values (length vss) (length vss') 0 0 ms (let a = ap length e in let b = length-append vss (us ∷ []) in omega (arith, a, b)) h

-- ---- a procedure that ends

split_at_last : {A : Type 0} (x : A) (xs : List A) → (last : A) × (x ∷ xs ≡ take (length xs) (x ∷ xs) ++ last ∷ [])
split_at_last x [] = (x, refl)
split_at_last x (y ∷ xs) = let r = split_at_last y xs in (r.0, ap (λ ys. x ∷ ys) r.1)

split_last : {A : Type 0} (xs : List A) → 0 < length xs → (last : A) × (xs ≡ take (length xs - 1) xs ++ last ∷ [])
split_last [] lt = absurd (omega (arith, lt))
split_last {A = A} (x ∷ xs) lt =
    let r = split_at_last x xs in
    (r.0, r.1 ∙ ap (λ n. take n (x ∷ xs) ++ r.0 ∷ []) (let e : length xs ≡ length (x ∷ xs) - 1 = omega arith in e))

-- no savepoint has more procedures than the innermost one
fewer_frames : (old_values frames n low few : ℕ) (ms : List SavepointRs) (m : SavepointRs) → m.frames ≤ n → AreInOrder old_values frames low few (ms ++ m ∷ []) → AreInOrder old_values n low few (ms ++ m ∷ [])
fewer_frames old_values frames n low few [] m le h = (h.0, h.1, (h.2.0, le))
fewer_frames old_values frames n low few (k ∷ ms) m le h = (h.0, h.1, fewer_frames old_values frames n k.old_values k.frames ms m le h.2)

-- there is no savepoint, or an innermost one
data Ends : List SavepointRs → Type 0 where
  none_open : Ends []
  one_open : (ms : List SavepointRs) (m : SavepointRs) → Ends (ms ++ m ∷ [])

ends_more : (k : SavepointRs) (ms : List SavepointRs) → Ends ms → Ends (k ∷ ms)
ends_more k ms none_open = one_open [] k
ends_more k ms (one_open ns m) = one_open (k ∷ ns) m

ends_in : (ms : List SavepointRs) → Ends ms
ends_in [] = none_open
ends_in (k ∷ ms) = ends_more k ms (ends_in ms)

last_frames : (ms : List SavepointRs) (m : SavepointRs) → innermost_frames (ms ++ m ∷ []) ≡ m.frames
last_frames [] m = refl
last_frames (k ∷ []) m = refl
last_frames (k ∷ j ∷ ms) m = last_frames (j ∷ ms) m

pub some_last : (ms : List SavepointRs) (m : SavepointRs) → slice_get ms (length ms - 1) ≡ Some m → innermost_frames ms ≡ m.frames
some_last [] m e = cc
some_last (k ∷ []) m e = let is : k ≡ m = cc in ap (λ (x : SavepointRs). x.frames) is
some_last (k ∷ j ∷ ms) m e =
    some_last (j ∷ ms) m (ap (λ n. slice_get (k ∷ j ∷ ms) n) (let e : suc (length (j ∷ ms) - 1) ≡ length (k ∷ j ∷ ms) - 1 = omega arith in e) ∙ e)

pub none_last : (ms : List SavepointRs) → slice_get ms (length ms - 1) ≡ None → innermost_frames ms ≡ 0
none_last [] e = refl
none_last (k ∷ []) e = cc
none_last (k ∷ j ∷ ms) e =
    none_last (j ∷ ms) (ap (λ n. slice_get (k ∷ j ∷ ms) n) (let e : suc (length (j ∷ ms) - 1) ≡ length (k ∷ j ∷ ms) - 1 = omega arith in e) ∙ e)

order_by : (ms : List SavepointRs) → Ends ms → (old_values frames n : ℕ) → innermost_frames ms ≤ n → AreInOrder old_values frames 0 0 ms → AreInOrder old_values n 0 0 ms
order_by ms none_open old_values frames n le h = (h.0, (let z : 0 ≤ n = omega arith in z))
order_by ms (one_open ns m) old_values frames n le h = fewer_frames old_values frames n 0 0 ns m (let e = last_frames ns m in omega (arith, e, le)) h

pub order_shorter : (old_values : ℕ) (vss vss' : Values) (ms : List SavepointRs) → vss' ≡ take (length vss - 1) vss → innermost_frames ms ≤ length vss - 1 → AreInOrder old_values (length vss) 0 0 ms → AreInOrder old_values (length vss') 0 0 ms
order_shorter old_values vss vss' ms e le h =
    order_by ms (ends_in ms) old_values (length vss) (length vss') (let l = ap length e in let k = length-take-le (length vss - 1) vss (omega arith) in omega (arith, l, k, le)) h

outer_frames_by : (ms : List SavepointRs) → Ends ms → (old_values : List OldValueRs) (vss no_undo : Values) (bss : List (List Buffer)) → length bss ≡ length vss → AreInOrder (length old_values) (length vss) 0 0 ms → 0 < length vss → HasFewer (last_copy (remembered vss no_undo bss old_values ms).copies) vss → innermost_frames ms ≤ length vss - 1
outer_frames_by ms none_open old_values vss no_undo bss even h some few = omega arith
outer_frames_by ms (one_open ns m) old_values vss no_undo bss even h some few =
    let R = reverse (old_values_of old_values) in
    let N = counts_of bss in
    let c = copy_at R vss (savepoint_of N (length ns) m) in
    let i = innermost (length old_values) (length vss) 0 0 ns m h in
    let last_is : last_copy (map (copy_at R vss) (savepoints_from N 0 (ns ++ m ∷ []))) ≡ Some c = ap last_copy (copies_more N R vss ns m) ∙ last_more (map (copy_at R vss) (savepoints_from N 0 ns)) c in
    let less : length c.frames < length vss = subst (λ x. HasFewer x vss) last_is few in
    let long = length_copy N R vss (length ns) m (let l = length_counts bss in omega (arith, l, even, i.1)) i.1 in
    let e = last_frames ns m in
    omega (arith, long, less, e)

pub outer_frames : (old_values : List OldValueRs) (vss no_undo : Values) (bss : List (List Buffer)) (ms : List SavepointRs) (now : Remembered) → remembered vss no_undo bss old_values ms ≡ now → length bss ≡ length vss → AreInOrder (length old_values) (length vss) 0 0 ms → IsOuter now → innermost_frames ms ≤ length vss - 1
outer_frames old_values vss no_undo bss ms now is_now even h outer =
    let o : IsOuter (remembered vss no_undo bss old_values ms) = subst IsOuter (sym is_now) outer in
    outer_frames_by ms (ends_in ms) old_values vss no_undo bss even h o.0 o.1

take_counts : (n : ℕ) (bss : List (List Buffer)) → take n (counts_of (take n bss)) ≡ take n (counts_of bss)
take_counts zero bss = refl
take_counts (suc n) [] = refl
take_counts (suc n) (bs ∷ bss) = ap (λ ns. length bs ∷ ns) (take_counts n bss)

pub view_ended : (old_values : List OldValueRs) (vss vss' no_undo no_undo' : Values) (bss bss' : List (List Buffer)) (ms : List SavepointRs) (now : Remembered) → remembered vss no_undo bss old_values ms ≡ now → vss' ≡ take (length vss - 1) vss → no_undo' ≡ take (length vss - 1) no_undo → bss' ≡ take (length vss - 1) bss → length bss ≡ length vss → AreInOrder (length old_values) (length vss) 0 0 ms → IsOuter now →
    remembered vss' no_undo' bss' old_values ms ≡ ended now
view_ended old_values vss vss' no_undo no_undo' bss bss' ms now is_now e1 e2 e3 even h outer =
    let R = reverse (old_values_of old_values) in
    let o : IsOuter (remembered vss no_undo bss old_values ms) = subst IsOuter (sym is_now) outer in
    let r = split_last vss o.0 in
    let n = length vss - 1 in
    let short = take n vss in
    let few = take n bss in
    let low = order_shorter (length old_values) vss short ms refl (outer_frames old_values vss no_undo bss ms now is_now even h outer) h in
    let order : AreInOrder (length R) (length short) 0 0 ms = subst (λ l. AreInOrder l (length short) 0 0 ms) (sym (length_olds old_values)) low in
    let long : length short ≡ n = length-take-le n vss (omega arith) in
    let same_counts : take (length short) (counts_of few) ≡ take (length short) (counts_of bss) = ap (λ k. take k (counts_of few)) long ∙ take_counts n bss ∙ ap (λ k. take k (counts_of bss)) (sym long) in
    let few_long : length (counts_of few) ≡ length short = length_counts few ∙ length-take-le n bss (omega (arith, even)) ∙ sym long in
    let same : map (copy_at R short) (savepoints_from (counts_of few) 0 ms) ≡ map (copy_at R vss) (savepoints_from (counts_of bss) 0 ms) =
    sym (copies_after_run (counts_of few) 0 0 0 R short r.0 ms few_long order)
    ∙ ap (λ x. map (copy_at R x) (savepoints_from (counts_of few) 0 ms)) (sym r.1)
    ∙ ap (map (copy_at R vss)) (savepoints_same (counts_of few) (counts_of bss) (length R) (length short) 0 0 0 ms same_counts order) in
    ap (λ x. remembered x no_undo' bss' old_values ms) e1 ∙ ap (λ x. remembered short x bss' old_values ms) e2 ∙ ap (λ x. remembered short (take n no_undo) x old_values ms) e3
    ∙ ap (λ (cs : List Copy). let m : Remembered = record { undoable = short; no_undo = take n no_undo; buffers = few; copies = cs } in m) same
    ∙ ap ended is_now

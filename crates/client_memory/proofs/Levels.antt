-- Levels that are left.
use Rattle.std.proofs.Common.{◌≡◌, ℕ, zero, suc, ◌+◌, ◌<◌, ◌≤◌, List, [], ◌∷◌, ◌++◌, length, Bool, true, false, refl, sym, ap, ◌∙◌, arith, take, map}
use Rattle.std.specs.Prelude.{◌==◌, reverse}
use Rattle.std.proofs.lemmas.Bool.{ne_eqb, eqb-false}
use Rattle.std.proofs.lemmas.List.{length-append, length-map}
use Rattle.block_meaning.specs.State.{Buffer, Copy}
use Rattle.client_memory.specs.Undo.{Values, copy_at}
use Rattle.client_memory.specs.declared.memory.OldValue.{OldValue as OldValueRs}
use Rattle.client_memory.specs.declared.memory.Savepoint.{Savepoint as SavepointRs}
use Rattle.client_memory.specs.OldValues.{old_values_of}
use Rattle.client_memory.specs.Buffers.{shared_if}
use Rattle.client_memory.specs.Savepoints.{counts_of, savepoint_of, savepoints_from, remembered, AreInOrder}
use Rattle.client_memory.specs.Memory.{Remembered, left, left_to, without_last}
use Rattle.client_memory.proofs.Remembers.{copies_more, without_more, length_marks, take_all}

-- ---- the innermost level

abbrev with_two : Values → Values → List (List Buffer) → List Copy → Remembered
with_two vss no_undo bss cs = record { undoable = vss; no_undo = no_undo; buffers = bss; copies = cs }

copies_left : (olds : List OldValueRs) (vss : Values) (counts : List ℕ) (ms : List SavepointRs) (m : SavepointRs) → map (copy_at (reverse (old_values_of olds)) vss) (savepoints_from counts 0 ms) ≡ without_last (map (copy_at (reverse (old_values_of olds)) vss) (savepoints_from counts 0 (ms ++ m ∷ [])))
copies_left olds vss counts ms m =
    let R = reverse (old_values_of olds) in
    sym (without_more (map (copy_at R vss) (savepoints_from counts 0 ms)) (copy_at R vss (savepoint_of counts (length ms) m))) ∙ ap without_last (sym (copies_more counts R vss ms m))

number_open : (olds : List OldValueRs) (vss : Values) (counts : List ℕ) (ms : List SavepointRs) (m : SavepointRs) → length (map (copy_at (reverse (old_values_of olds)) vss) (savepoints_from counts 0 (ms ++ m ∷ []))) ≡ length ms + 1
number_open olds vss counts ms m = length-map (savepoints_from counts 0 (ms ++ m ∷ [])) (copy_at (reverse (old_values_of olds)) vss) ∙ length_marks counts 0 (ms ++ m ∷ []) ∙ length-append ms (m ∷ [])

is_one : (n k : ℕ) → n ≡ k + 1 → k ≡ 0 → (n == 1) ≡ true
is_one n k e z = ap (λ x. x == 1) (let one : n ≡ 1 = omega (arith, e, z) in one)

is_not_one : (n k : ℕ) → n ≡ suc k + 1 → (n == 1) ≡ false
is_not_one n k e = ne_eqb n 1 (λ one. omega (arith, e, one))

-- one of several
pub view_left : (olds : List OldValueRs) (vss no_undo : Values) (bss : List (List Buffer)) (ms ms' : List SavepointRs) (m : SavepointRs) (now : Remembered) → now ≡ remembered vss no_undo bss olds ms → ms ≡ ms' ++ m ∷ [] → 0 < length ms' → remembered vss no_undo bss olds ms' ≡ left now
view_left olds vss no_undo bss ms [] m now is_now is some = absurd (omega (arith, some))
view_left olds vss no_undo bss ms (k ∷ ms') m now is_now is some =
    let N = counts_of bss in
    let all = map (copy_at (reverse (old_values_of olds)) vss) (savepoints_from N 0 ((k ∷ ms') ++ m ∷ [])) in
    ap (with_two vss no_undo bss) (copies_left olds vss N (k ∷ ms') m)
    ∙ ap (λ b. with_two vss no_undo (shared_if b bss) (without_last all)) (sym (is_not_one (length all) (length ms') (number_open olds vss N (k ∷ ms') m)))
    ∙ ap (λ x. left (remembered vss no_undo bss olds x)) (sym is) ∙ ap left (sym is_now)

-- the transaction's own
pub view_ended_all : (olds olds' : List OldValueRs) (vss no_undo : Values) (bss bss' : List (List Buffer)) (ms ms' : List SavepointRs) (m : SavepointRs) (now : Remembered) → now ≡ remembered vss no_undo bss olds ms → ms ≡ ms' ++ m ∷ [] → length ms' ≡ 0 → bss' ≡ shared_if true bss → remembered vss no_undo bss' olds' ms' ≡ left now
view_ended_all olds olds' vss no_undo bss bss' ms (k ∷ ms') m now is_now is none is_bss = absurd (omega (arith, none))
view_ended_all olds olds' vss no_undo bss bss' ms [] m now is_now is none is_bss =
    let N = counts_of bss in
    let all = map (copy_at (reverse (old_values_of olds)) vss) (savepoints_from N 0 ([] ++ m ∷ [])) in
    ap (λ x. with_two vss no_undo x []) is_bss
    ∙ ap (with_two vss no_undo (shared_if true bss)) (copies_left olds vss N [] m)
    ∙ ap (λ b. with_two vss no_undo (shared_if b bss) (without_last all)) (sym (is_one (length all) 0 (number_open olds vss N [] m) refl))
    ∙ ap (λ x. left (remembered vss no_undo bss olds x)) (sym is) ∙ ap left (sym is_now)

-- none is open
pub view_left_none : (olds : List OldValueRs) (vss no_undo : Values) (bss : List (List Buffer)) (ms : List SavepointRs) (now : Remembered) → now ≡ remembered vss no_undo bss olds ms → length ms ≡ 0 → now ≡ left now
view_left_none olds vss no_undo bss [] now is none = is ∙ ap left (sym is)
view_left_none olds vss no_undo bss (m ∷ ms) now is none = absurd (omega (arith, none))

-- ---- several at once

take_map : {A B : Type 0} (f : A → B) (d : ℕ) (xs : List A) → map f (take d xs) ≡ take d (map f xs)
take_map f zero xs = refl
take_map f (suc d) [] = refl
take_map f (suc d) (x ∷ xs) = ap (λ ys. f x ∷ ys) (take_map f d xs)

take_from : (counts : List ℕ) (d n : ℕ) (ms : List SavepointRs) → savepoints_from counts n (take d ms) ≡ take d (savepoints_from counts n ms)
take_from counts zero n ms = refl
take_from counts (suc d) n [] = refl
take_from counts (suc d) n (m ∷ ms) = ap (λ xs. savepoint_of counts n m ∷ xs) (take_from counts d (n + 1) ms)

order_bound : (o f low few : ℕ) (ms : List SavepointRs) → AreInOrder o f low few ms → (low ≤ o) × (few ≤ f)
order_bound o f low few [] h = h
order_bound o f low few (m ∷ ms) h = let x = order_bound o f m.old_values m.frames ms h.2 in (omega (arith, h.0, x.0), omega (arith, h.1, x.1))

-- the order of the outer savepoints
pub order_left_to : (o f low few d : ℕ) (ms : List SavepointRs) → AreInOrder o f low few ms → AreInOrder o f low few (take d ms)
order_left_to o f low few zero ms h = order_bound o f low few ms h
order_left_to o f low few (suc d) [] h = h
order_left_to o f low few (suc d) (m ∷ ms) h = (h.0, h.1, order_left_to o f m.old_values m.frames d ms h.2)

abbrev with_copies : Remembered → List Copy → Remembered
with_copies m cs = record m { copies = cs }

pub view_left_to : (olds : List OldValueRs) (vss no_undo : Values) (bss : List (List Buffer)) (ms ms' : List SavepointRs) (d : ℕ) (now : Remembered) → now ≡ remembered vss no_undo bss olds ms → ms' ≡ take d ms → remembered vss no_undo bss olds ms' ≡ left_to d now
view_left_to olds vss no_undo bss ms ms' d now is is' =
    let R = reverse (old_values_of olds) in
    let N = counts_of bss in
    ap (λ x. remembered vss no_undo bss olds x) is'
    ∙ ap (λ cs. with_copies (remembered vss no_undo bss olds ms) cs) (ap (map (copy_at R vss)) (take_from N d 0 ms) ∙ take_map (copy_at R vss) d (savepoints_from N 0 ms))
    ∙ ap (left_to d) (sym is)

pub view_left_nowhere : (olds : List OldValueRs) (vss no_undo : Values) (bss : List (List Buffer)) (ms : List SavepointRs) (d : ℕ) (now : Remembered) → now ≡ remembered vss no_undo bss olds ms → length ms ≤ d → now ≡ left_to d now
view_left_nowhere olds vss no_undo bss ms d now is le =
    let R = reverse (old_values_of olds) in
    let N = counts_of bss in
    let copies_length : length (map (copy_at R vss) (savepoints_from N 0 ms)) ≡ length ms = length-map (savepoints_from N 0 ms) (copy_at R vss) ∙ length_marks N 0 ms in
    let l : length now.copies ≡ length ms = ap (λ (m : Remembered). length m.copies) is ∙ copies_length in
    ap (with_copies now) (sym (take_all d now.copies (omega (arith, l, le))))

not_none : (k : ℕ) → (k ≡ 0 → ⊥) → 0 < k
not_none zero never = absurd (never refl)
not_none (suc k) never = omega arith

pub some_left : (ms : List SavepointRs) (n : ℕ) (b : Bool) → n ≡ length ms → b ≡ (n == 0) → b ≡ false → 0 < length ms
some_left ms n b len is e = not_none (length ms) (λ z. eqb-false n 0 (sym is ∙ e) (len ∙ z))

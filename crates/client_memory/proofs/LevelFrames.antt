-- The frames of the states after a level begins, is left, or is restored.
use Rattle.std.proofs.Common.{◌≡◌, ℕ, suc, ◌+◌, ◌-◌, ◌<◌, List, [], ◌∷◌, ◌++◌, length, Bool, true, false, Some, refl, sym, ap, ◌∙◌, subst, arith}
use Rattle.std.specs.Prelude.{◌==◌, map, reverse}
use Rattle.std.proofs.lemmas.Bool.{eqb-true}
use Rattle.std.proofs.lemmas.List.{length-reverse, reverse-append, reverse-reverse, length-append, length-map}
use Rattle.block_meaning.specs.State.{State, CallFrame, Buffer, Content, Copy, Saved}
use Rattle.block_meaning.specs.Frames.{saved_of, copy_of, contents_restored, frames_restored, put_back}
use Rattle.block_meaning.specs.Buffers.{buffer_shared, frame_shared, left_if}
use Rattle.block_meaning.specs.Buffers as levels
use Rattle.client_memory.specs.Undo.{Values}
use Rattle.client_memory.specs.Buffers.{shared_if, saved_contents}
use Rattle.client_memory.specs.Memory.{Remembered, saved_now, copy_now, left, without_last, last_copy, variables_in, contents_in, buffers_restored, restored, restored_from, HasAll, IsWhole}
use Rattle.client_memory.specs.Frames.{frames_out, frames_of, state_at, AreEven}
use Rattle.client_memory.proofs.Copies.{map_reverse}
use Rattle.client_memory.proofs.FramesOut.{AreAlike, frames_reverse, alike_reverse}

-- ---- a level begins

saved_frames : (ns : List ℕ) (uss kss : Values) (bss : List (List Buffer)) → AreAlike ns uss kss bss → map saved_of (frames_out ns uss kss bss) ≡ saved_now uss bss
saved_frames [] [] kss bss e = refl
saved_frames [] (us ∷ uss) kss bss e = absurd (omega (arith, e.0))
saved_frames (n ∷ ns) [] kss bss e = absurd (omega (arith, e.0))
saved_frames (n ∷ ns) (us ∷ uss) [] bss e = absurd (omega (arith, e.1))
saved_frames (n ∷ ns) (us ∷ uss) (ks ∷ kss) [] e = absurd (omega (arith, e.2))
saved_frames (n ∷ ns) (us ∷ uss) (ks ∷ kss) (bs ∷ bss) e =
    ap (λ xs. let s : Saved = record { undoable = us; contents = saved_contents bs } in s ∷ xs) (saved_frames ns uss kss bss (omega (arith, e.0), omega (arith, e.1), omega (arith, e.2)))

abbrev copy_with : ℕ → ℕ → List Saved → Copy
copy_with d made fs = record { depth = d; made = made; frames = fs }

pub copy_is : (rest : State) (ns : List ℕ) (m : Remembered) (made : ℕ) → AreEven ns m → rest.made ≡ made → copy_now made m ≡ copy_of (state_at rest ns m)
copy_is rest ns m made even e =
    ap (λ fs. copy_with (length m.copies + 1) made fs) (ap reverse (sym (saved_frames ns m.undoable m.no_undo m.buffers even)) ∙ sym (map_reverse saved_of (frames_of ns m)))
    ∙ ap (λ n. copy_with (length m.copies + 1) n (map saved_of (reverse (frames_of ns m)))) (sym e)

-- ---- a level is left

shared_frames : (ns : List ℕ) (uss kss : Values) (bss : List (List Buffer)) → map frame_shared (frames_out ns uss kss bss) ≡ frames_out ns uss kss (map (map buffer_shared) bss)
shared_frames [] uss kss bss = refl
shared_frames (n ∷ ns) [] kss bss = refl
shared_frames (n ∷ ns) (us ∷ uss) [] bss = refl
shared_frames (n ∷ ns) (us ∷ uss) (ks ∷ kss) [] = refl
shared_frames (n ∷ ns) (us ∷ uss) (ks ∷ kss) (bs ∷ bss) = ap (λ (fs : List CallFrame). let f : CallFrame = record { procedure = n; undoable = us; no_undo = ks; buffers = map buffer_shared bs } in f ∷ fs) (shared_frames ns uss kss bss)

split_last : (c : Copy) (cs : List Copy) → (last : Copy) × (c ∷ cs ≡ without_last (c ∷ cs) ++ last ∷ [])
split_last c [] = (c, refl)
split_last c (d ∷ cs) = let r = split_last d cs in (r.0, ap (λ xs. c ∷ xs) r.1)

pub one_level_less : (cs : List Copy) → 0 < length cs → length (without_last cs) ≡ length cs - 1
one_level_less [] lt = absurd (omega (arith, lt))
one_level_less (c ∷ cs) lt = let r = split_last c cs in let a = ap length r.1 in let b = length-append (without_last (c ∷ cs)) (r.0 ∷ []) in omega (arith, a, b)

abbrev with_level : State → List CallFrame → ℕ → State
with_level rest fs n = record rest { frames = fs; level = n }

left_by : (b : Bool) (rest : State) (ns : List ℕ) (m : Remembered) → (length m.copies == 1) ≡ b → 0 < length m.copies → with_level rest (reverse (frames_out ns m.undoable m.no_undo (shared_if b m.buffers))) (length (without_last m.copies)) ≡ left_if b (state_at rest ns m)
left_by true rest ns m e lt =
    let one : length m.copies ≡ 1 = eqb-true (length m.copies) 1 e in
    let none : length (without_last m.copies) ≡ 0 = let a = one_level_less m.copies lt in omega (arith, a, one) in
    ap (with_level rest (reverse (frames_out ns m.undoable m.no_undo (shared_if true m.buffers)))) none
    ∙ ap (λ fs. with_level rest fs 0) (ap reverse (sym (shared_frames ns m.undoable m.no_undo m.buffers)) ∙ sym (map_reverse frame_shared (frames_of ns m)))
left_by false rest ns m e lt = ap (with_level rest (reverse (frames_of ns m))) (one_level_less m.copies lt)

pub left_is : (rest : State) (ns : List ℕ) (m : Remembered) → 0 < length m.copies → state_at rest ns (left m) ≡ levels.left (state_at rest ns m)
left_is rest ns m lt = left_by (length m.copies == 1) rest ns m refl lt

-- ---- a level is restored

restored_frames : (cs : List Saved) (ns : List ℕ) (uss kss : Values) (bss : List (List Buffer)) → length cs ≡ length ns → AreAlike ns uss kss bss → frames_restored cs (frames_out ns uss kss bss) ≡ frames_out ns (map (λ x. x.undoable) cs) kss (buffers_restored (map (λ x. x.contents) cs) bss)
restored_frames [] [] uss kss bss e0 e = refl
restored_frames [] (n ∷ ns) uss kss bss e0 e = absurd (omega (arith, e0))
restored_frames (c ∷ cs) [] uss kss bss e0 e = absurd (omega (arith, e0))
restored_frames (c ∷ cs) (n ∷ ns) [] kss bss e0 e = absurd (omega (arith, e.0))
restored_frames (c ∷ cs) (n ∷ ns) (us ∷ uss) [] bss e0 e = absurd (omega (arith, e.1))
restored_frames (c ∷ cs) (n ∷ ns) (us ∷ uss) (ks ∷ kss) [] e0 e = absurd (omega (arith, e.2))
restored_frames (c ∷ cs) (n ∷ ns) (us ∷ uss) (ks ∷ kss) (bs ∷ bss) e0 e =
    ap (λ (fs : List CallFrame). let f : CallFrame = record { procedure = n; undoable = c.undoable; no_undo = ks; buffers = contents_restored c.contents bs } in f ∷ fs) (restored_frames cs ns uss kss bss (omega (arith, e0)) (omega (arith, e.0), omega (arith, e.1), omega (arith, e.2)))

restored_seam : (css : List (List Content)) (cs : List Content) (bss : List (List Buffer)) (bs : List Buffer) → length css ≡ length bss → buffers_restored (css ++ cs ∷ []) (bss ++ bs ∷ []) ≡ buffers_restored css bss ++ contents_restored cs bs ∷ []
restored_seam [] cs [] bs e = refl
restored_seam [] cs (zs ∷ bss) bs e = absurd (omega (arith, e))
restored_seam (xs ∷ css) cs [] bs e = absurd (omega (arith, e))
restored_seam (xs ∷ css) cs (zs ∷ bss) bs e = ap (λ yss. contents_restored xs zs ∷ yss) (restored_seam css cs bss bs (omega (arith, e)))

restored_reverse : (css : List (List Content)) (bss : List (List Buffer)) → length css ≡ length bss → reverse (buffers_restored css bss) ≡ buffers_restored (reverse css) (reverse bss)
restored_reverse [] [] e = refl
restored_reverse [] (bs ∷ bss) e = absurd (omega (arith, e))
restored_reverse (cs ∷ css) [] e = absurd (omega (arith, e))
restored_reverse (cs ∷ css) (bs ∷ bss) e =
    let e' : length css ≡ length bss = omega (arith, e) in
    reverse-append (contents_restored cs bs ∷ []) (buffers_restored css bss)
    ∙ ap (λ xs. xs ++ contents_restored cs bs ∷ []) (restored_reverse css bss e')
    ∙ sym (restored_seam (reverse css) cs (reverse bss) bs (let a = length-reverse css in let b = length-reverse bss in omega (arith, a, b, e')))
    ∙ ap (λ xs. buffers_restored xs (reverse bss ++ bs ∷ [])) (sym (reverse-append (cs ∷ []) css))
    ∙ ap (buffers_restored (reverse (cs ∷ css))) (sym (reverse-append (bs ∷ []) bss))

length_restored_all : (css : List (List Content)) (bss : List (List Buffer)) → length (buffers_restored css bss) ≡ length bss
length_restored_all [] bss = refl
length_restored_all (cs ∷ css) [] = refl
length_restored_all (cs ∷ css) (bs ∷ bss) = ap suc (length_restored_all css bss)

frames_back : (ns : List ℕ) (m : Remembered) (c : Copy) → AreEven ns m → length c.frames ≡ length m.undoable → reverse (frames_out ns (variables_in c) m.no_undo (buffers_restored (contents_in c) m.buffers)) ≡ frames_restored c.frames (reverse (frames_of ns m))
frames_back ns m c even all =
    let us = map (λ (x : Saved). x.undoable) c.frames in
    let css = map (λ (x : Saved). x.contents) c.frames in
    let lu : length us ≡ length c.frames = length-map c.frames (λ (x : Saved). x.undoable) in
    let lc : length css ≡ length c.frames = length-map c.frames (λ (x : Saved). x.contents) in
    let ru = length-reverse us in
    let rc = length-reverse css in
    let rn = length-reverse ns in
    let lb = length_restored_all (contents_in c) m.buffers in
    frames_reverse ns (variables_in c) m.no_undo (buffers_restored (contents_in c) m.buffers) (omega (arith, ru, lu, all, even.0), even.1, omega (arith, lb, even.2))
    ∙ ap (λ xs. frames_out (reverse ns) xs (reverse m.no_undo) (reverse (buffers_restored (contents_in c) m.buffers))) (reverse-reverse us)
    ∙ ap (frames_out (reverse ns) us (reverse m.no_undo)) (restored_reverse (reverse css) m.buffers (omega (arith, rc, lc, all, even.0, even.2)) ∙ ap (λ xs. buffers_restored xs (reverse m.buffers)) (reverse-reverse css))
    ∙ sym (restored_frames c.frames (reverse ns) (reverse m.undoable) (reverse m.no_undo) (reverse m.buffers) (omega (arith, rn, all, even.0)) (alike_reverse ns m.undoable m.no_undo m.buffers even))
    ∙ ap (frames_restored c.frames) (sym (frames_reverse ns m.undoable m.no_undo m.buffers even))

-- the copy of the innermost level is put back
pub restored_is : (rest : State) (ns : List ℕ) (m : Remembered) (c : Copy) → AreEven ns m → IsWhole m → last_copy m.copies ≡ Some c → c.depth ≡ length m.copies → state_at rest ns (restored m) ≡ put_back c (state_at rest ns m)
restored_is rest ns m c even whole last deep =
    let all : length c.frames ≡ length m.undoable = subst (λ x. HasAll x m.undoable) last whole in
    ap (λ x. state_at rest ns (restored_from x m)) last
    ∙ ap (λ fs. with_level rest fs (length m.copies)) (frames_back ns m c even all)
    ∙ ap (with_level rest (frames_restored c.frames (reverse (frames_of ns m)))) (sym deep)

pub even_restored : (ns : List ℕ) (m : Remembered) (c : Copy) → AreEven ns m → IsWhole m → last_copy m.copies ≡ Some c → AreEven ns (restored m)
even_restored ns m c even whole last =
    let all : length c.frames ≡ length m.undoable = subst (λ x. HasAll x m.undoable) last whole in
    let lu = length-map c.frames (λ (x : Saved). x.undoable) in
    let ru = length-reverse (map (λ (x : Saved). x.undoable) c.frames) in
    let lb = length_restored_all (contents_in c) m.buffers in
    subst (λ x. AreEven ns (restored_from x m)) (sym last) (omega (arith, lu, ru, all, even.0), even.1, omega (arith, lb, even.2))

-- ---- what keeps the numbers of procedures even

length_shared : (b : Bool) (bss : List (List Buffer)) → length (shared_if b bss) ≡ length bss
length_shared true bss = length-map bss (map buffer_shared)
length_shared false bss = refl

pub even_left : (ns : List ℕ) (m : Remembered) → AreEven ns m → AreEven ns (left m)
even_left ns m even = (even.0, even.1, even.2 ∙ sym (length_shared (length m.copies == 1) m.buffers))

-- a copy has the open procedures
pub length_now : (uss : Values) (bss : List (List Buffer)) → length uss ≡ length bss → length (saved_now uss bss) ≡ length uss
length_now [] bss e = refl
length_now (us ∷ uss) [] e = absurd (omega (arith, e))
length_now (us ∷ uss) (bs ∷ bss) e = ap suc (length_now uss bss (omega (arith, e)))

-- The frames of the states that have the variables and buffers of a memory.
use Rattle.std.proofs.Common.{◌≡◌, ℕ, zero, suc, ◌+◌, List, [], ◌∷◌, ◌++◌, length, refl, sym, ap, ◌∙◌, arith, append-nil, append_assoc}
use Rattle.std.specs.Prelude.{reverse, slice_index_or, slice_set}
use Rattle.std.proofs.lemmas.List.{length-reverse, reverse-append, reverse-reverse, length-set}
use Rattle.abl_base.specs.declared.value.Value.{Value}
use Rattle.block_meaning.specs.State.{State, CallFrame, Buffer}
use Rattle.block_meaning.specs.Frames.{no_frame, no_buffer, with_own, own_frame, saved_of, copy_of, contents_restored, frames_restored, put_back}
use Rattle.block_meaning.specs.Frames as meant
use Rattle.block_meaning.specs.Buffers.{Place, own, all_places, places_out, places_from, buffer_in, frame_out, keep_of, rows_from, all_rows, rows_in}
use Rattle.client_memory.specs.Undo.{Values}
use Rattle.client_memory.specs.Buffers.{buffers_out, changed_at, changed_in, places_in, rows_inward, rows_kept}
use Rattle.client_memory.specs.Memory.{Remembered, holding, marked_locked, with_spot, saved_now, copy_now, left, without_last, last_copy, variables_in, contents_in, buffers_restored, restored, restored_from, HasAll, IsWhole}
use Rattle.client_memory.specs.Memory as memory
use Rattle.client_memory.specs.Frames.{frames_out, frames_of, state_with, AreEven}

-- ---- frames

abbrev frame_with : ℕ → List Value → List Value → List Buffer → CallFrame
frame_with n us ks bs = record { procedure = n; undoable = us; no_undo = ks; buffers = bs }

-- lists of one length
abbrev pub AreAlike : List ℕ → Values → Values → List (List Buffer) → Type 0
AreAlike ns uss kss bss = (length ns ≡ length uss) × (length ns ≡ length kss) × (length ns ≡ length bss)

pub length_out : (ns : List ℕ) (uss kss : Values) (bss : List (List Buffer)) → AreAlike ns uss kss bss → length (frames_out ns uss kss bss) ≡ length ns
length_out [] uss kss bss e = refl
length_out (n ∷ ns) [] kss bss e = absurd (omega (arith, e.0))
length_out (n ∷ ns) (us ∷ uss) [] bss e = absurd (omega (arith, e.1))
length_out (n ∷ ns) (us ∷ uss) (ks ∷ kss) [] e = absurd (omega (arith, e.2))
length_out (n ∷ ns) (us ∷ uss) (ks ∷ kss) (bs ∷ bss) e = ap suc (length_out ns uss kss bss (omega (arith, e.0), omega (arith, e.1), omega (arith, e.2)))

pub frames_more : (ns : List ℕ) (uss kss : Values) (bss : List (List Buffer)) (n : ℕ) (us ks : List Value) (bs : List Buffer) → AreAlike ns uss kss bss → frames_out (ns ++ n ∷ []) (uss ++ us ∷ []) (kss ++ ks ∷ []) (bss ++ bs ∷ []) ≡ frames_out ns uss kss bss ++ frame_with n us ks bs ∷ []
frames_more [] [] [] [] n us ks bs e = refl
frames_more [] [] [] (b ∷ bss) n us ks bs e = absurd (omega (arith, e.2))
frames_more [] [] (k ∷ kss) bss n us ks bs e = absurd (omega (arith, e.1))
frames_more [] (u ∷ uss) kss bss n us ks bs e = absurd (omega (arith, e.0))
frames_more (m ∷ ns) [] kss bss n us ks bs e = absurd (omega (arith, e.0))
frames_more (m ∷ ns) (u ∷ uss) [] bss n us ks bs e = absurd (omega (arith, e.1))
frames_more (m ∷ ns) (u ∷ uss) (k ∷ kss) [] n us ks bs e = absurd (omega (arith, e.2))
frames_more (m ∷ ns) (u ∷ uss) (k ∷ kss) (b ∷ bss) n us ks bs e = ap (λ fs. frame_with m u k b ∷ fs) (frames_more ns uss kss bss n us ks bs (omega (arith, e.0), omega (arith, e.1), omega (arith, e.2)))

pub alike_reverse : (ns : List ℕ) (uss kss : Values) (bss : List (List Buffer)) → AreAlike ns uss kss bss → AreAlike (reverse ns) (reverse uss) (reverse kss) (reverse bss)
alike_reverse ns uss kss bss e =
    let a = length-reverse ns in let b = length-reverse uss in let c = length-reverse kss in let d = length-reverse bss in
    (omega (arith, a, b, e.0), omega (arith, a, c, e.1), omega (arith, a, d, e.2))

-- the innermost first
pub frames_reverse : (ns : List ℕ) (uss kss : Values) (bss : List (List Buffer)) → AreAlike ns uss kss bss → reverse (frames_out ns uss kss bss) ≡ frames_out (reverse ns) (reverse uss) (reverse kss) (reverse bss)
frames_reverse [] [] [] [] e = refl
frames_reverse [] [] [] (b ∷ bss) e = absurd (omega (arith, e.2))
frames_reverse [] [] (k ∷ kss) bss e = absurd (omega (arith, e.1))
frames_reverse [] (u ∷ uss) kss bss e = absurd (omega (arith, e.0))
frames_reverse (m ∷ ns) [] kss bss e = absurd (omega (arith, e.0))
frames_reverse (m ∷ ns) (u ∷ uss) [] bss e = absurd (omega (arith, e.1))
frames_reverse (m ∷ ns) (u ∷ uss) (k ∷ kss) [] e = absurd (omega (arith, e.2))
frames_reverse (m ∷ ns) (u ∷ uss) (k ∷ kss) (b ∷ bss) e =
    let e' : AreAlike ns uss kss bss = (omega (arith, e.0), omega (arith, e.1), omega (arith, e.2)) in
    reverse-append (frame_with m u k b ∷ []) (frames_out ns uss kss bss)
    ∙ ap (λ fs. fs ++ frame_with m u k b ∷ []) (frames_reverse ns uss kss bss e')
    ∙ sym (frames_more (reverse ns) (reverse uss) (reverse kss) (reverse bss) m u k b (alike_reverse ns uss kss bss e'))
    ∙ ap (λ xs. frames_out xs (reverse uss ++ u ∷ []) (reverse kss ++ k ∷ []) (reverse bss ++ b ∷ [])) (sym (reverse-append (m ∷ []) ns))
    ∙ ap (λ xs. frames_out (reverse (m ∷ ns)) xs (reverse kss ++ k ∷ []) (reverse bss ++ b ∷ [])) (sym (reverse-append (u ∷ []) uss))
    ∙ ap (λ xs. frames_out (reverse (m ∷ ns)) (reverse (u ∷ uss)) xs (reverse bss ++ b ∷ [])) (sym (reverse-append (k ∷ []) kss))
    ∙ ap (λ xs. frames_out (reverse (m ∷ ns)) (reverse (u ∷ uss)) (reverse (k ∷ kss)) xs) (sym (reverse-append (b ∷ []) bss))

-- ---- one buffer

buffers_at : (ns : List ℕ) (uss kss : Values) (bss : List (List Buffer)) (k : ℕ) → AreAlike ns uss kss bss → (slice_index_or (frames_out ns uss kss bss) k no_frame).buffers ≡ slice_index_or bss k []
buffers_at [] uss kss [] k e = refl
buffers_at [] uss kss (bs ∷ bss) k e = absurd (omega (arith, e.2))
buffers_at (n ∷ ns) [] kss bss k e = absurd (omega (arith, e.0))
buffers_at (n ∷ ns) (us ∷ uss) [] bss k e = absurd (omega (arith, e.1))
buffers_at (n ∷ ns) (us ∷ uss) (ks ∷ kss) [] k e = absurd (omega (arith, e.2))
buffers_at (n ∷ ns) (us ∷ uss) (ks ∷ kss) (bs ∷ bss) zero e = refl
buffers_at (n ∷ ns) (us ∷ uss) (ks ∷ kss) (bs ∷ bss) (suc k) e = buffers_at ns uss kss bss k (omega (arith, e.0), omega (arith, e.1), omega (arith, e.2))

buffers_set : (ns : List ℕ) (uss kss : Values) (bss : List (List Buffer)) (k : ℕ) (bs : List Buffer) → AreAlike ns uss kss bss → frames_out ns uss kss (slice_set bss k bs) ≡ slice_set (frames_out ns uss kss bss) k (record (slice_index_or (frames_out ns uss kss bss) k no_frame) { buffers = bs })
buffers_set [] uss kss bss k bs e = refl
buffers_set (n ∷ ns) [] kss bss k bs e = absurd (omega (arith, e.0))
buffers_set (n ∷ ns) (us ∷ uss) [] bss k bs e = absurd (omega (arith, e.1))
buffers_set (n ∷ ns) (us ∷ uss) (ks ∷ kss) [] k bs e = absurd (omega (arith, e.2))
buffers_set (n ∷ ns) (us ∷ uss) (ks ∷ kss) (zs ∷ bss) zero bs e = refl
buffers_set (n ∷ ns) (us ∷ uss) (ks ∷ kss) (zs ∷ bss) (suc k) bs e = ap (λ fs. frame_with n us ks zs ∷ fs) (buffers_set ns uss kss bss k bs (omega (arith, e.0), omega (arith, e.1), omega (arith, e.2)))

frames_are : (ns : List ℕ) (m : Remembered) → AreEven ns m → reverse (frames_of ns m) ≡ frames_out (reverse ns) (reverse m.undoable) (reverse m.no_undo) (reverse m.buffers)
frames_are ns m even = frames_reverse ns m.undoable m.no_undo m.buffers even

pub buffers_are : (rest : State) (ns : List ℕ) (m : Remembered) (k : ℕ) → AreEven ns m → (frame_out k (state_with rest ns m)).buffers ≡ buffers_out k m.buffers
buffers_are rest ns m k even =
    ap (λ fs. (slice_index_or fs k no_frame).buffers) (frames_are ns m even)
    ∙ buffers_at (reverse ns) (reverse m.undoable) (reverse m.no_undo) (reverse m.buffers) k (alike_reverse ns m.undoable m.no_undo m.buffers even)

-- the buffer at a place
pub buffer_is : (rest : State) (ns : List ℕ) (m : Remembered) (at : Place) → AreEven ns m → buffer_in at (state_with rest ns m) ≡ memory.buffer_at at m
buffer_is rest ns m at even = ap (λ bs. slice_index_or bs at.number no_buffer) (buffers_are rest ns m at.out even)

-- a changed one
abbrev pub changed_meant : Place → (Buffer → Buffer) → State → State
changed_meant at change s = record s { frames = slice_set s.frames at.out (record (frame_out at.out s) { buffers = slice_set (frame_out at.out s).buffers at.number (change (buffer_in at s)) }) }

pub changed_is : (rest : State) (ns : List ℕ) (m : Remembered) (at : Place) (change : Buffer → Buffer) → AreEven ns m → state_with rest ns (record m { buffers = changed_in at change m.buffers }) ≡ changed_meant at change (state_with rest ns m)
changed_is rest ns m at change even =
    let bs = changed_at at.number change (buffers_out at.out m.buffers) in
    let fs = reverse (frames_of ns m) in
    let alike = alike_reverse ns m.undoable m.no_undo m.buffers even in
    let long : length (changed_in at change m.buffers) ≡ length m.buffers = length-reverse (slice_set (reverse m.buffers) at.out bs) ∙ length-set (reverse m.buffers) at.out bs ∙ length-reverse m.buffers in
    ap (λ (fs : List CallFrame). record rest { frames = fs }) (frames_reverse ns m.undoable m.no_undo (changed_in at change m.buffers) (even.0, even.1, even.2 ∙ sym long)
    ∙ ap (frames_out (reverse ns) (reverse m.undoable) (reverse m.no_undo)) (reverse-reverse (slice_set (reverse m.buffers) at.out bs))
    ∙ buffers_set (reverse ns) (reverse m.undoable) (reverse m.no_undo) (reverse m.buffers) at.out bs alike
    ∙ ap (λ gs. slice_set gs at.out (record (slice_index_or gs at.out no_frame) { buffers = bs })) (sym (frames_are ns m even))
    ∙ ap (λ zs. slice_set fs at.out (record (slice_index_or fs at.out no_frame) { buffers = changed_at at.number change zs })) (sym (buffers_are rest ns m at.out even)))

-- the running procedure's own
own_changed : (b : ℕ) (change : Buffer → Buffer) (s : State) → changed_meant (own b) change s ≡ meant.with_buffer b (change (meant.buffer_at b s)) s
own_changed b change s = own_by s.frames b change s
  where
    own_by : (fs : List CallFrame) (b : ℕ) (change : Buffer → Buffer) (s : State) →
        (let t : State = record s { frames = slice_set fs 0 (record (slice_index_or fs 0 no_frame) { buffers = slice_set (slice_index_or fs 0 no_frame).buffers b (change (slice_index_or (slice_index_or fs 0 no_frame).buffers b no_buffer)) }) } in t) ≡
        (let t : State = record s { frames = with_own (record (own_frame fs) { buffers = slice_set (own_frame fs).buffers b (change (slice_index_or (own_frame fs).buffers b no_buffer)) }) fs } in t)
    own_by [] b change s = refl
    own_by (f ∷ fs) b change s = refl

pub own_buffer : (b : ℕ) (s : State) → buffer_in (own b) s ≡ meant.buffer_at b s
own_buffer b s = own_by s.frames b
  where
    own_by : (fs : List CallFrame) (b : ℕ) → slice_index_or (slice_index_or fs 0 no_frame).buffers b no_buffer ≡ slice_index_or (own_frame fs).buffers b no_buffer
    own_by [] b = refl
    own_by (f ∷ fs) b = refl

pub own_changed_is : (rest : State) (ns : List ℕ) (m : Remembered) (b : ℕ) (change : Buffer → Buffer) → AreEven ns m → state_with rest ns (record m { buffers = changed_in (own b) change m.buffers }) ≡ meant.with_buffer b (change (meant.buffer_at b (state_with rest ns m))) (state_with rest ns m)
own_changed_is rest ns m b change even = changed_is rest ns m (own b) change even ∙ own_changed b change (state_with rest ns m)

pub own_buffer_is : (rest : State) (ns : List ℕ) (m : Remembered) (b : ℕ) → AreEven ns m → meant.buffer_at b (state_with rest ns m) ≡ memory.buffer_at (own b) m
own_buffer_is rest ns m b even = sym (own_buffer b (state_with rest ns m)) ∙ buffer_is rest ns m (own b) even

-- ---- all places

places_append : (k : ℕ) (fs gs : List CallFrame) → places_out k (fs ++ gs) ≡ places_out (k + length fs) gs ++ places_out k fs
places_append k [] gs = ap (λ n. places_out n gs) (let e : k ≡ k + 0 = omega arith in e) ∙ sym (append-nil (places_out (k + 0) gs))
places_append k (f ∷ fs) gs =
    ap (λ ps. ps ++ places_from k 0 f.buffers) (places_append (k + 1) fs gs)
    ∙ append_assoc (places_out (k + 1 + length fs) gs) (places_out (k + 1) fs) (places_from k 0 f.buffers)
    ∙ ap (λ n. places_out n gs ++ places_out k (f ∷ fs)) (let e : k + 1 + length fs ≡ k + length (f ∷ fs) = omega arith in e)

places_of_frames : (ns : List ℕ) (uss kss : Values) (bss : List (List Buffer)) → AreAlike ns uss kss bss → places_out 0 (reverse (frames_out ns uss kss bss)) ≡ places_in bss
places_of_frames [] uss kss [] e = refl
places_of_frames [] uss kss (bs ∷ bss) e = absurd (omega (arith, e.2))
places_of_frames (n ∷ ns) [] kss bss e = absurd (omega (arith, e.0))
places_of_frames (n ∷ ns) (us ∷ uss) [] bss e = absurd (omega (arith, e.1))
places_of_frames (n ∷ ns) (us ∷ uss) (ks ∷ kss) [] e = absurd (omega (arith, e.2))
places_of_frames (n ∷ ns) (us ∷ uss) (ks ∷ kss) (bs ∷ bss) e =
    let e' : AreAlike ns uss kss bss = (omega (arith, e.0), omega (arith, e.1), omega (arith, e.2)) in
    let f = frame_with n us ks bs in
    let fs = frames_out ns uss kss bss in
    let long : 0 + length (reverse fs) ≡ length bss = let a = length-reverse fs in let b = length_out ns uss kss bss e' in omega (arith, a, b, e'.2) in
    ap (places_out 0) (reverse-append (f ∷ []) fs)
    ∙ places_append 0 (reverse fs) (f ∷ [])
    ∙ ap (λ n. places_from n 0 bs ++ places_out 0 (reverse fs)) long
    ∙ ap (λ ps. places_from (length bss) 0 bs ++ ps) (places_of_frames ns uss kss bss e')

pub places_are : (rest : State) (ns : List ℕ) (m : Remembered) → AreEven ns m → all_places (state_with rest ns m) ≡ places_in m.buffers
places_are rest ns m even = places_of_frames ns m.undoable m.no_undo m.buffers even

-- ---- rows that remain locked

rows_of_frames : (but : List ℕ) (ns : List ℕ) (uss kss : Values) (bss : List (List Buffer)) → AreAlike ns uss kss bss → rows_in but (frames_out ns uss kss bss) ≡ rows_inward but bss
rows_of_frames but [] uss kss [] e = refl
rows_of_frames but [] uss kss (bs ∷ bss) e = absurd (omega (arith, e.2))
rows_of_frames but (n ∷ ns) [] kss bss e = absurd (omega (arith, e.0))
rows_of_frames but (n ∷ ns) (us ∷ uss) [] bss e = absurd (omega (arith, e.1))
rows_of_frames but (n ∷ ns) (us ∷ uss) (ks ∷ kss) [] e = absurd (omega (arith, e.2))
rows_of_frames but (n ∷ ns) (us ∷ uss) (ks ∷ kss) (bs ∷ bss) e = ap (all_rows (rows_from 0 but bs)) (rows_of_frames [] ns uss kss bss (omega (arith, e.0), omega (arith, e.1), omega (arith, e.2)))

pub rows_are : (rest : State) (ns : List ℕ) (m : Remembered) (but : List ℕ) → AreEven ns m → keep_of but (state_with rest ns m) ≡ rows_kept but m.buffers
rows_are rest ns m but even =
    ap (rows_in but) (frames_are ns m even) ∙ rows_of_frames but (reverse ns) (reverse m.undoable) (reverse m.no_undo) (reverse m.buffers) (alike_reverse ns m.undoable m.no_undo m.buffers even)

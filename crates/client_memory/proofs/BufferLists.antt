-- Lists of buffers: one that is changed, pending records that are counted, stored and restored.
use Rattle.std.proofs.Common.{◌≡◌, ℕ, zero, suc, ◌+◌, ◌-◌, ◌<◌, ◌≤◌, ◌^◌, List, [], ◌∷◌, ◌++◌, length, Bool, true, false, cond, refl, sym, ap, ◌∙◌, subst, arith, take, drop, map, reverse, replicate, slice_index_or, slice_set, nat_lt}
use Rattle.std.proofs.lemmas.List.{map-append, get_or-reverse, length-set, set-get_or, length-reverse, reverse-append, reverse-reverse, set-append_left}
use Rattle.std.proofs.lemmas.Bool.{ltb-false}
use Rattle.std.proofs.Math.Seq.{set-append_seam, map-set_same}
use Rattle.std.proofs.lemmas.List.Edits.{map_over_more}
use Rattle.block_meaning.specs.State.{NoLock, Share, Exclusive, Content, Empty, Record, Pending, Buffer}
use Rattle.block_meaning.specs.Frames.{no_buffer, pending_of, content_restored, contents_restored}
use Rattle.block_meaning.specs.Buffers.{Place, as_share, buffer_shared}
use Rattle.block_meaning.specs.Meaning.{new_buffer}
use Rattle.bound_tree.specs.declared.procedure.BufferDef.{BufferDef}
use Rattle.client_memory.specs.Buffers.{is_pending, pending_count, saved_contents, with_content, changed_at, buffers_out, changed_in}
use Rattle.client_memory.specs.Memory.{buffers_restored}
use Rattle.client_memory.specs.Savepoints.{contents_with, counts_of}
use Rattle.client_memory.proofs.Copies.{map_reverse}

-- ---- lists

-- past its end a list stays as it is
pub set_past : {A : Type 0} (xs : List A) (n : ℕ) (x : A) → length xs ≤ n → slice_set xs n x ≡ xs
set_past [] n x le = refl
set_past (y ∷ xs) zero x le = absurd (omega (arith, le))
set_past (y ∷ xs) (suc n) x le = ap (λ ys. y ∷ ys) (set_past xs n x (omega (arith, le)))

pub index_past : {A : Type 0} (xs : List A) (n : ℕ) (d : A) → length xs ≤ n → slice_index_or xs n d ≡ d
index_past [] n d le = refl
index_past (y ∷ xs) zero d le = absurd (omega (arith, le))
index_past (y ∷ xs) (suc n) d le = index_past xs n d (omega (arith, le))

next_taken : {A : Type 0} (ys : List A) (i : ℕ) (y : A) → i < length ys → take (suc i) ys ≡ take i ys ++ slice_index_or ys i y ∷ []
next_taken [] i y lt = absurd (omega (arith, lt))
next_taken (z ∷ ys) zero y lt = refl
next_taken (z ∷ ys) (suc i) y lt = ap (λ zs. z ∷ zs) (next_taken ys i y (omega (arith, lt)))

one_taken : {A : Type 0} (ys : List A) (i : ℕ) (y : A) → i < length ys → take (i + 1) ys ≡ take i ys ++ slice_index_or ys i y ∷ []
one_taken ys i y lt = ap (λ n. take n ys) (let e : i + 1 ≡ suc i = omega arith in e) ∙ next_taken ys i y lt

-- one step of a loop that collects
pub map_more : {A B C : Type 0} (f : A → C) (g : B → C) (xs : List A) (ys : List B) (x : A) (y : B) (i : ℕ) → map f xs ≡ map g (take i ys) → f x ≡ g y → y ≡ slice_index_or ys i y → i < length ys → map f (xs ++ x ∷ []) ≡ map g (take (i + 1) ys)
map_more f g xs ys x y i e same at lt =
    map-append f xs (x ∷ []) ∙ ap (λ zs. zs ++ f x ∷ []) e ∙ ap (λ z. map g (take i ys) ++ z ∷ []) (same ∙ ap g at)
    ∙ sym (map-append g (take i ys) (slice_index_or ys i y ∷ [])) ∙ ap (map g) (sym (one_taken ys i y lt))

-- ---- pending records

shared_pending : (c : Content) → is_pending (as_share c) ≡ is_pending c
shared_pending Empty = refl
shared_pending (Record row values NoLock made) = refl
shared_pending (Record row values Share made) = refl
shared_pending (Record row values Exclusive made) = refl
shared_pending (Pending values since made) = refl

pub shared_count : (bs : List Buffer) → pending_count (map buffer_shared bs) ≡ pending_count bs
shared_count [] = refl
shared_count (b ∷ bs) = ap (λ x. cond x 1 0 + pending_count (map buffer_shared bs)) (shared_pending b.content) ∙ ap (λ n. cond (is_pending b.content) 1 0 + n) (shared_count bs)

-- a change of a buffer that preserves its content preserves the count
pub same_count : (bs : List Buffer) (n : ℕ) (change : Buffer → Buffer) → ((b : Buffer) → (change b).content ≡ b.content) → pending_count (changed_at n change bs) ≡ pending_count bs
same_count [] n change e = refl
same_count (b ∷ bs) zero change e = ap (λ c. cond (is_pending c) 1 0 + pending_count bs) (e b)
same_count (b ∷ bs) (suc n) change e = ap (λ m. cond (is_pending b.content) 1 0 + m) (same_count bs n change e)

one_or_none : (b : Bool) → cond b 1 0 ≤ 1
one_or_none true = omega arith
one_or_none false = omega arith

-- a buffer with another content
pub count_after : (bs : List Buffer) (n : ℕ) (c : Content) → n < length bs → pending_count (changed_at n (with_content c) bs) + cond (is_pending (slice_index_or bs n no_buffer).content) 1 0 ≡ pending_count bs + cond (is_pending c) 1 0
count_after [] n c lt = absurd (omega (arith, lt))
count_after (b ∷ bs) zero c lt = omega arith
count_after (b ∷ bs) (suc n) c lt = let h = count_after bs n c (omega (arith, lt)) in omega (arith, h)

pub count_low : (bs : List Buffer) (n : ℕ) → n < length bs → is_pending (slice_index_or bs n no_buffer).content ≡ true → 0 < pending_count bs
count_low bs n lt e =
    let x = count_after bs n Empty lt in
    let one : ◌≡◌ {A = ℕ} (cond (is_pending (slice_index_or bs n no_buffer).content) 1 0) 1 = ap (λ b. cond b 1 0) e in
    omega (arith, x, one)

pub count_bound : (bs : List Buffer) → pending_count bs ≤ length bs
count_bound [] = omega arith
count_bound (b ∷ bs) = let h = count_bound bs in let one = one_or_none (is_pending b.content) in omega (arith, h, one)

-- the recorded number of pending records is still right after the content of a buffer changes
pub counted_again : (bs bs' : List Buffer) (n pending pending' : ℕ) (old c : Content) (was is : Bool) → n < length bs → length bs < 2 ^ 63 → pending ≡ pending_count bs → old ≡ (slice_index_or bs n no_buffer).content → bs' ≡ changed_at n (with_content c) bs → was ≡ is_pending old → is ≡ is_pending c →
    (pending + 1 < 2 ^ 64 → (was ≡ true → 0 < pending) → pending' + cond was 1 0 ≡ pending + cond is 1 0) → pending' ≡ pending_count bs'
counted_again bs bs' n pending pending' old c was is lt small kept held new is_was is_is recount =
    let bound = count_bound bs in
    let r = recount (omega (arith, bound, small, kept)) (λ e. let l = count_low bs n lt (sym (is_was ∙ ap is_pending held) ∙ e) in omega (arith, l, kept)) in
    let x : pending_count (changed_at n (with_content c) bs) + cond was 1 0 ≡ pending_count bs + cond is 1 0 =
    ap (λ b. pending_count (changed_at n (with_content c) bs) + cond b 1 0) (is_was ∙ ap is_pending held) ∙ count_after bs n c lt ∙ ap (λ b. pending_count bs + cond b 1 0) (sym is_is) in
    let e : pending' ≡ pending_count (changed_at n (with_content c) bs) = omega (arith, r, x, kept) in
    e ∙ ap pending_count (sym new)

-- no record is pending in initial buffers
pub new_count : (definitions : List BufferDef) → 0 ≡ pending_count (map new_buffer definitions)
new_count [] = refl
new_count (d ∷ definitions) = let h = new_count definitions in omega (arith, h)

-- where none is pending, nothing is stored
blank_by : (c : Content) (bs : List Buffer) → cond (is_pending c) 1 0 + pending_count bs ≡ 0 → (pending_count bs ≡ 0 → replicate (length bs) Empty ≡ saved_contents bs) → Empty ∷ replicate (length bs) Empty ≡ pending_of c ∷ saved_contents bs
blank_by Empty bs e next = ap (λ cs. Empty ∷ cs) (next (let z : pending_count bs ≡ 0 = omega (arith, e) in z))
blank_by (Record row values held made) bs e next = ap (λ cs. Empty ∷ cs) (next (let z : pending_count bs ≡ 0 = omega (arith, e) in z))
blank_by (Pending values since made) bs e next = absurd (omega (arith, e))

pub nothing_saved : (bs : List Buffer) → pending_count bs ≡ 0 → replicate (length bs) Empty ≡ saved_contents bs
nothing_saved [] e = refl
nothing_saved (b ∷ bs) e = blank_by b.content bs e (nothing_saved bs)

pub stored_whole : (bss : List (List Buffer)) → contents_with (map saved_contents bss) (counts_of bss) ≡ map saved_contents bss
stored_whole [] = refl
stored_whole (bs ∷ bss) = ap (λ css. saved_contents bs ∷ css) (stored_whole bss)

abbrev first_of : List (List Content) → List Content
first_of [] = []
first_of (cs ∷ css) = cs

abbrev rest_of : List (List Content) → List (List Content)
rest_of [] = []
rest_of (cs ∷ css) = css

-- one step of a loop that looks for a pending record
pub blank_more : (bss : List (List Buffer)) (bs : List Buffer) → contents_with [] (counts_of bss) ≡ map saved_contents bss → pending_count bs ≡ 0 → contents_with [] (counts_of (bss ++ bs ∷ [])) ≡ map saved_contents (bss ++ bs ∷ [])
blank_more [] bs e z = ap (λ cs. cs ∷ []) (nothing_saved bs z)
blank_more (zs ∷ bss) bs e z = ap (λ cs. cs ∷ contents_with [] (counts_of (bss ++ bs ∷ []))) (ap first_of e) ∙ ap (λ css. saved_contents zs ∷ css) (blank_more bss bs (ap rest_of e) z)

-- ---- restoring

pub restored_last : (cs : List Content) (c : Content) (bs : List Buffer) → contents_restored (cs ++ c ∷ []) bs ≡ contents_restored cs (changed_at (length cs) (content_restored c) bs)
restored_last [] c [] = refl
restored_last [] c (b ∷ bs) = refl
restored_last (x ∷ cs) c [] = refl
restored_last (x ∷ cs) c (b ∷ bs) = ap (λ xs. content_restored x b ∷ xs) (restored_last cs c bs)

-- a record that is not pending is not restored
restored_not : (c : Content) (b : Buffer) → is_pending c ≡ false → content_restored c b ≡ b
restored_not Empty b e = refl
restored_not (Record row values held made) b e = refl
restored_not (Pending values since made) b e = cc

pub not_restored : (n : ℕ) (c : Content) (bs : List Buffer) → is_pending c ≡ false → bs ≡ changed_at n (content_restored c) bs
not_restored n c bs e = sym (ap (slice_set bs n) (restored_not c (slice_index_or bs n no_buffer) e) ∙ set-get_or bs n no_buffer)

restored_yes : (c : Content) (b : Buffer) → is_pending c ≡ true → with_content c b ≡ content_restored c b
restored_yes Empty b e = cc
restored_yes (Record row values held made) b e = cc
restored_yes (Pending values since made) b e = refl

pub yes_restored : (n : ℕ) (c : Content) (bs : List Buffer) → is_pending c ≡ true → changed_at n (with_content c) bs ≡ changed_at n (content_restored c) bs
yes_restored n c bs e = ap (slice_set bs n) (restored_yes c (slice_index_or bs n no_buffer) e)

pub frame_restored_last : (css : List (List Content)) (cs : List Content) (bss : List (List Buffer)) → buffers_restored (css ++ cs ∷ []) bss ≡ buffers_restored css (slice_set bss (length css) (contents_restored cs (slice_index_or bss (length css) [])))
frame_restored_last [] cs [] = refl
frame_restored_last [] cs (bs ∷ bss) = refl
frame_restored_last (xs ∷ css) cs [] = refl
frame_restored_last (xs ∷ css) cs (bs ∷ bss) = ap (λ xss. contents_restored xs bs ∷ xss) (frame_restored_last css cs bss)

blank_restored : (bs : List Buffer) → contents_restored (replicate (length bs) Empty) bs ≡ bs
blank_restored [] = refl
blank_restored (b ∷ bs) = ap (λ xs. b ∷ xs) (blank_restored bs)

-- what is not stored restores nothing
pub restored_with : (css : List (List Content)) (bss : List (List Buffer)) → buffers_restored (contents_with css (counts_of bss)) bss ≡ buffers_restored css bss
restored_with [] [] = refl
restored_with (cs ∷ css) [] = refl
restored_with [] (bs ∷ bss) = ap (λ xs. xs ∷ buffers_restored (contents_with [] (counts_of bss)) bss) (blank_restored bs) ∙ ap (λ xss. bs ∷ xss) (restored_with [] bss)
restored_with (cs ∷ css) (bs ∷ bss) = ap (λ xss. contents_restored cs bs ∷ xss) (restored_with css bss)

length_restored : (cs : List Content) (bs : List Buffer) → length (contents_restored cs bs) ≡ length bs
length_restored [] bs = refl
length_restored (c ∷ cs) [] = refl
length_restored (c ∷ cs) (b ∷ bs) = ap suc (length_restored cs bs)

-- ---- the number of buffers

pub counts_restored : (css : List (List Content)) (bss : List (List Buffer)) → counts_of (buffers_restored css bss) ≡ counts_of bss
counts_restored [] bss = refl
counts_restored (cs ∷ css) [] = refl
counts_restored (cs ∷ css) (bs ∷ bss) = ap (λ n. n ∷ counts_of (buffers_restored css bss)) (length_restored cs bs) ∙ ap (λ ns. length bs ∷ ns) (counts_restored css bss)

-- ---- lists in the other direction

-- an item of the reversed list
pub reverse_set : {A : Type 0} (xs : List A) (k i : ℕ) (x : A) → i + k + 1 ≡ length xs → reverse (slice_set (reverse xs) k x) ≡ slice_set xs i x
reverse_set [] k i x e = absurd (omega (arith, e))
reverse_set (y ∷ ys) k zero x e =
    let at : k ≡ length (reverse ys) = let l = length-reverse ys in omega (arith, l, e) in
    ap (λ zs. reverse (slice_set zs k x)) (reverse-append (y ∷ []) ys)
    ∙ ap (λ n. reverse (slice_set (reverse ys ++ y ∷ []) n x)) at
    ∙ ap reverse (set-append_seam (reverse ys) y [] x)
    ∙ reverse-append (reverse ys) (x ∷ []) ∙ ap (λ zs. x ∷ zs) (reverse-reverse ys)
reverse_set (y ∷ ys) k (suc i) x e =
    ap (λ zs. reverse (slice_set zs k x)) (reverse-append (y ∷ []) ys)
    ∙ ap reverse (set-append_left (reverse ys) (y ∷ []) k x (let l = length-reverse ys in omega (arith, l, e)))
    ∙ reverse-append (slice_set (reverse ys) k x) (y ∷ [])
    ∙ ap (λ zs. y ∷ zs) (reverse_set ys k i x (omega (arith, e)))

-- ---- a buffer of an open procedure that is changed

pub same_length : (n : ℕ) (change : Buffer → Buffer) (bs : List Buffer) → length (changed_at n change bs) ≡ length bs
same_length n change bs = length-set bs n (change (slice_index_or bs n no_buffer))

pub counts_reverse : (bss : List (List Buffer)) → counts_of (reverse bss) ≡ reverse (counts_of bss)
counts_reverse bss = map_reverse (λ (bs : List Buffer). length bs) bss

pub counts_changed : (at : Place) (change : Buffer → Buffer) (bss : List (List Buffer)) → counts_of (changed_in at change bss) ≡ counts_of bss
counts_changed at change bss =
    let k = at.out in
    let bs = slice_index_or (reverse bss) k [] in
    counts_reverse (slice_set (reverse bss) k (changed_at at.number change bs))
    ∙ ap reverse (map-set_same (λ (bs : List Buffer). length bs) (reverse bss) k (changed_at at.number change bs) [] (same_length at.number change bs))
    ∙ ap reverse (counts_reverse bss) ∙ reverse-reverse (counts_of bss)

-- the buffers of a procedure by its index
pub buffers_by_index : (bss : List (List Buffer)) (k i : ℕ) → i + k + 1 ≡ length bss → buffers_out k bss ≡ slice_index_or bss i []
buffers_by_index bss k i e = get_or-reverse bss k [] (omega (arith, e)) ∙ ap (λ n. slice_index_or bss n []) (let j : length bss - 1 - k ≡ i = omega (arith, e) in j)

pub buffers_nowhere : (bss : List (List Buffer)) (k : ℕ) → length bss ≤ k → buffers_out k bss ≡ []
buffers_nowhere bss k le = index_past (reverse bss) k [] (let l = length-reverse bss in omega (arith, l, le))

-- the procedure by its index
pub changed_by_index : (at : Place) (change : Buffer → Buffer) (bss bss' : List (List Buffer)) (i : ℕ) → i + at.out + 1 ≡ length bss → bss' ≡ slice_set bss i (changed_at at.number change (slice_index_or bss i [])) → bss' ≡ changed_in at change bss
changed_by_index at change bss bss' i e is =
    is ∙ ap (λ bs. slice_set bss i (changed_at at.number change bs)) (sym (buffers_by_index bss at.out i e)) ∙ sym (reverse_set bss at.out i (changed_at at.number change (buffers_out at.out bss)) e)

-- no such procedure
pub changed_nowhere : (at : Place) (change : Buffer → Buffer) (bss : List (List Buffer)) → length bss ≤ at.out → bss ≡ changed_in at change bss
changed_nowhere at change bss le =
    sym (ap reverse (set_past (reverse bss) at.out (changed_at at.number change (buffers_out at.out bss)) (let l = length-reverse bss in omega (arith, l, le))) ∙ reverse-reverse bss)

-- what a call stored, restated for an equal list
pub stored_here : (css : List (List Content)) (xss bss : List (List Buffer)) → xss ≡ bss → contents_with css (counts_of xss) ≡ map saved_contents xss → contents_with css (counts_of bss) ≡ map saved_contents bss
stored_here css xss bss is h = subst (λ (yss : List (List Buffer)). contents_with css (counts_of yss) ≡ map saved_contents yss) is h

-- ---- loops over procedures

pub taken_more : {A : Type 0} (xs : List A) (i : ℕ) (x : A) → i < length xs → x ≡ slice_index_or xs i x → take i xs ++ x ∷ [] ≡ take (i + 1) xs
taken_more xs i x lt is = ap (λ z. take i xs ++ z ∷ []) is ∙ sym (one_taken xs i x lt)

pub blank_step : (bss : List (List Buffer)) (i : ℕ) (bs : List Buffer) (b : Bool) → i < length bss → bs ≡ slice_index_or bss i bs → b ≡ nat_lt 0 (pending_count bs) → b ≡ false → contents_with [] (counts_of (take i bss)) ≡ map saved_contents (take i bss) → contents_with [] (counts_of (take (i + 1) bss)) ≡ map saved_contents (take (i + 1) bss)
blank_step bss i bs b lt is has e inv =
    let low = ltb-false 0 (pending_count bs) (sym has ∙ e) in
    subst (λ (xss : List (List Buffer)). contents_with [] (counts_of xss) ≡ map saved_contents xss) (taken_more bss i bs lt is) (blank_more (take i bss) bs inv (let z : pending_count bs ≡ 0 = omega (arith, low) in z))

-- ---- a procedure that is lent

index_default : {A : Type 0} (xs : List A) (i : ℕ) (d e : A) → i < length xs → slice_index_or xs i d ≡ slice_index_or xs i e
index_default [] i d e lt = absurd (omega (arith, lt))
index_default (x ∷ xs) zero d e lt = refl
index_default (x ∷ xs) (suc i) d e lt = index_default xs i d e (omega (arith, lt))

pub changed_by_loan : (at : Place) (change : Buffer → Buffer) (bss : List (List Buffer)) (i : ℕ) (bs bs' : List Buffer) → i + at.out + 1 ≡ length bss → bs ≡ slice_index_or bss i bs → bs' ≡ changed_at at.number change bs → slice_set bss i bs' ≡ changed_in at change bss
changed_by_loan at change bss i bs bs' e is new =
    changed_by_index at change bss (slice_set bss i bs') i e
    (ap (slice_set bss i) (new ∙ ap (changed_at at.number change) (is ∙ index_default bss i bs [] (omega (arith, e)))))

-- one step of a loop that shares locks
pub share_frames_more : (init items : List (List Buffer)) (i : ℕ) (bs new : List Buffer) → i < length init → items ≡ map (map buffer_shared) (take i init) ++ drop i init → bs ≡ slice_index_or items i bs → new ≡ map buffer_shared bs → slice_set items i new ≡ map (map buffer_shared) (take (i + 1) init) ++ drop (i + 1) init
share_frames_more init items i bs new lt inv is e = ap (slice_set items i) e ∙ map_over_more (map buffer_shared) init items i bs lt inv is

-- one step of a loop that restores
pub restore_frames_more : (css' css : List (List Content)) (cs : List Content) (bss bss' end : List (List Buffer)) (n : ℕ) → css' ≡ css ++ cs ∷ [] → n ≡ length css → bss' ≡ slice_set bss n (contents_restored cs (slice_index_or bss n [])) → buffers_restored css' bss ≡ end → buffers_restored css bss' ≡ end
restore_frames_more css' css cs bss bss' end n is len new e =
    ap (buffers_restored css) (new ∙ ap (λ k. slice_set bss k (contents_restored cs (slice_index_or bss k []))) len)
    ∙ sym (frame_restored_last css cs bss) ∙ ap (λ xss. buffers_restored xss bss) (sym is) ∙ e

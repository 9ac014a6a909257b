-- At the end of an UNDO no buffer outside has a record of its own that was created after the copy.
use Rattle.std.proofs.Common.{◌≡◌, refl, sym, ap, subst, ℕ, zero, suc, ◌+◌, ◌≤◌, ◌<◌, ◌==◌, nat_lt, List, [], ◌∷◌, ◌++◌, length, Bool, true, false, Option, Some, None, ◌⊎◌, inl, inr, arith}
use Rattle.std.specs.Prelude.{slice_index_or, slice_set}
use Rattle.std.proofs.lemmas.Bool.Decides.{eqb_tells}
use Rattle.abl_base.specs.declared.value.Value.{Value}
use Rattle.database_protocol.specs.declared.operation.Op.TheVariants as op
use Rattle.database_protocol.specs.declared.answer.Answer.{Answer}
use Rattle.block_meaning.specs.State.{State, CallFrame, Buffer, Saved, Copy, Content, Empty, Record, Pending, NoLock, Share, Exclusive, Normal, Outcome, Done, Suspended, Continuation, completes, if_else, update_then, asks, and_then}
use Rattle.block_meaning.specs.Frames.{no_frame, no_buffer, emptied, all_emptied, contents_restored, frames_restored, put_back}
use Rattle.block_meaning.specs.Views.{values_in}
use Rattle.block_meaning.specs.Buffers.{Place, places_from, places_out, all_places, buffer_in, holding_in, frame_out, as_share, keep_of, left_if, left, was_left, leaves, got_content, was_got, made_later, updates_content, updates, is_left_out, updates_places}
use Rattle.block_meaning.specs.Blocks.{after_back, goes_back}
use Rattle.block_meaning.specs.Undone.{content_in, IsOlder}
use Rattle.block_meaning.proofs.Undone.{MayBecome, AllowsUpdates, Preserves, HoldsRan, holds_ran, preserves_goes, preserves_first, preserves_from, preserves_asks, preserves_updates_places, undo_ends}
use Rattle.block_meaning.proofs.Pending.{at_numbers, put_at, put_other, shared_at, emptied_is}

-- ---- a buffer that holds something else

set_gives : (bs : List Buffer) (n : ℕ) (b : Buffer) → (slice_index_or (slice_set bs n b) n no_buffer ≡ b) ⊎ (slice_index_or (slice_set bs n b) n no_buffer ≡ no_buffer)
set_gives [] n b = inr refl
set_gives (c ∷ bs) zero b = inl refl
set_gives (c ∷ bs) (suc n) b = set_gives bs n b

put_same : (fs : List CallFrame) (o n : ℕ) (c : Content) → ((at_numbers (put_at fs o n c) o n).content ≡ c) ⊎ ((at_numbers (put_at fs o n c) o n).content ≡ Empty)
put_same [] o n c = inr refl
put_same (f ∷ fs) zero n c =
    elim (set_gives f.buffers n (record (slice_index_or f.buffers n no_buffer) { content = c })) [
      | inl e ↦ inl (ap (λ (b : Buffer). b.content) e)
      | inr e ↦ inr (ap (λ (b : Buffer). b.content) e)
    ]
put_same (f ∷ fs) (suc o) n c = put_same fs o n c

older_of : (mark : ℕ) (c : Content) → MayBecome mark c → IsOlder mark c
older_of mark Empty h = tt
older_of mark (Record row values held made) h = h
older_of mark (Pending values since made) h = absurd h

-- the buffer at a place holds nothing that was created later
abbrev IsOlderAt : Place → ℕ → State → Type 0
IsOlderAt at mark s = IsOlder mark (content_in at s)

put_older : (mark : ℕ) (fs : List CallFrame) (o n : ℕ) (c : Content) → IsOlder mark c → IsOlder mark (at_numbers (put_at fs o n c) o n).content
put_older mark fs o n c h =
    elim (put_same fs o n c) [
      | inl e ↦ subst (IsOlder mark) (sym e) h
      | inr e ↦ subst (IsOlder mark) (sym e) tt
    ]

put_keeps_older : (mark : ℕ) (fs : List CallFrame) (o n k m : ℕ) (c : Content) → IsOlder mark c → IsOlder mark (at_numbers fs o n).content → IsOlder mark (at_numbers (put_at fs k m c) o n).content
put_keeps_older mark fs o n k m c h x =
    elim (eqb_tells o k) [
      | inl t ↦ subst (λ j. IsOlder mark (at_numbers (put_at fs j m c) o n).content) t.1 (same_frame (eqb_tells n m))
      | inr t ↦ subst (λ (b : Buffer). IsOlder mark b.content) (sym (put_other fs o n k m c (λ e f. t.1 e))) x
    ]
  where
    same_frame : (((n == m) ≡ true) × (n ≡ m)) ⊎ (((n == m) ≡ false) × (n ≡ m → ⊥)) → IsOlder mark (at_numbers (put_at fs o m c) o n).content
    same_frame (inl u) = subst (λ j. IsOlder mark (at_numbers (put_at fs o j c) o n).content) u.1 (put_older mark fs o n c h)
    same_frame (inr u) = subst (λ (b : Buffer). IsOlder mark b.content) (sym (put_other fs o n o m c (λ e f. u.1 f))) x

holding_older : (at : Place) (mark : ℕ) → AllowsUpdates (IsOlderAt at mark) mark
holding_older at mark to c s may becomes x = put_keeps_older mark s.frames at.out at.number to.out to.number c (older_of mark c becomes) x

-- ---- the buffer at a place is refreshed

ran_either : (P : State → Type 0) (b : Bool) (one other : Continuation) (s : State) (ans : List Answer) → (b ≡ true → HoldsRan P (one s ans)) → (b ≡ false → HoldsRan P (other s ans)) → HoldsRan P (if_else b one other s ans)
ran_either P true one other s ans x y = x refl
ran_either P false one other s ans x y = y refl

not_below : (mark made : ℕ) → nat_lt mark made ≡ false → made ≤ mark
not_below mark made h = grind arith

emptied_older : (at : Place) (mark : ℕ) (s : State) → IsOlderAt at mark (holding_in at Empty s)
emptied_older at mark s = put_older mark s.frames at.out at.number Empty tt

updates_content_older : (mark : ℕ) (at : Place) (t : ℕ) (c : Content) (s : State) (ans : List Answer) → c ≡ content_in at s → HoldsRan (IsOlderAt at mark) (updates_content mark at t c s ans)
updates_content_older mark at t Empty s ans e = subst (IsOlder mark) e tt
updates_content_older mark at t (Pending values since made) s ans e =
    ran_either (IsOlderAt at mark) (nat_lt mark made) (update_then (holding_in at Empty) (completes Normal)) (completes Normal) s ans (λ l. emptied_older at mark s) (λ l. subst (IsOlder mark) e (not_below mark made l))
updates_content_older mark at t (Record row values held made) s ans e =
    ran_either (IsOlderAt at mark) (made_later mark made) (update_then (holding_in at Empty) (completes Normal)) (asks (op.Get t row) (was_got at row held made)) s ans (λ l. emptied_older at mark s)
    (λ l.
    holds_ran (IsOlderAt at mark) (asks (op.Get t row) (was_got at row held made) s ans)
    (preserves_from (IsOlderAt at mark) (λ s n h. h) s.units (op.Get t row) (was_got at row held made) s
    (λ m a ans. put_older mark s.frames at.out at.number (got_content (values_in a) row held made) (got_older (values_in a) l)) (subst (IsOlder mark) e l) ans))
  where
    got_older : (o : Option (List Value)) → made_later mark made ≡ false → IsOlder mark (got_content o row held made)
    got_older (Some vs) l = l
    got_older None l = tt

-- ---- one place among all

abbrev IsAmong : Place → List Place → Type 0
IsAmong at [] = ⊥
IsAmong at (p ∷ ps) = (p ≡ at) ⊎ IsAmong at ps

then_no_undo : (P : State → Type 0) (r : Outcome) (next : Continuation) → HoldsRan P r → Preserves P next → HoldsRan P (and_then r next)
then_no_undo P (Done Normal s left) next h x = holds_ran P (next s left) (x s left h)
then_no_undo P (Done completion s left) next h x = tt
then_no_undo P (Suspended d) next h x = tt

then_reached : (P : State → Type 0) (r : Outcome) (next : Continuation) → ((s : State) (ans : List Answer) → HoldsRan P (next s ans)) → HoldsRan P (and_then r next)
then_reached P (Done Normal s left) next x = x s left
then_reached P (Done completion s left) next x = tt
then_reached P (Suspended d) next x = tt

not_left_out : (P : State → Type 0) (b : Bool) (other : Continuation) (s : State) (ans : List Answer) → b ≡ false → HoldsRan P (other s ans) → HoldsRan P (if_else b (completes Normal) other s ans)
not_left_out P true other s ans e h = absurd (grind arith)
not_left_out P false other s ans e h = h

places_older : (at : Place) (mark : ℕ) (but : List ℕ) → is_left_out but at ≡ false → (places : List Place) → IsAmong at places → (s : State) (ans : List Answer) → HoldsRan (IsOlderAt at mark) (updates_places mark but places s ans)
places_older at mark but out [] i s ans = absurd i
places_older at mark but out (p ∷ ps) (inl e) s ans =
    then_no_undo (IsOlderAt at mark) (if_else (is_left_out but p) (completes Normal) (updates mark p) s ans) (updates_places mark but ps)
    (subst (λ q. HoldsRan (IsOlderAt at mark) (if_else (is_left_out but q) (completes Normal) (updates mark q) s ans)) (sym e)
    (not_left_out (IsOlderAt at mark) (is_left_out but at) (updates mark at) s ans out (updates_content_older mark at (buffer_in at s).table (content_in at s) s ans refl)))
    (preserves_updates_places (IsOlderAt at mark) mark (λ s n h. h) (holding_older at mark) but ps)
places_older at mark but out (p ∷ ps) (inr i) s ans =
    then_reached (IsOlderAt at mark) (if_else (is_left_out but p) (completes Normal) (updates mark p) s ans) (updates_places mark but ps) (places_older at mark but out ps i)

among_left : (at : Place) (ps qs : List Place) → IsAmong at ps → IsAmong at (ps ++ qs)
among_left at [] qs i = absurd i
among_left at (p ∷ ps) qs (inl e) = inl e
among_left at (p ∷ ps) qs (inr i) = inr (among_left at ps qs i)

among_right : (at : Place) (ps qs : List Place) → IsAmong at qs → IsAmong at (ps ++ qs)
among_right at [] qs i = i
among_right at (p ∷ ps) qs i = inr (among_right at ps qs i)

among_from : (k m n : ℕ) (bs : List Buffer) → n < length bs → IsAmong (record { out = k; number = m + n }) (places_from k m bs)
among_from k m n [] l = absurd (omega arith)
among_from k m zero (b ∷ bs) l = inl (ap (λ (j : ℕ). record { out = k; number = j }) (omega arith))
among_from k m (suc n) (b ∷ bs) l =
    let e : (m + 1) + n ≡ m + suc n = omega arith in
    inr (subst (λ (j : ℕ). IsAmong (record { out = k; number = j }) (places_from k (m + 1) bs)) e (among_from k (m + 1) n bs (omega arith)))

among_out : (k : ℕ) (fs : List CallFrame) (o n : ℕ) → n < length (slice_index_or fs o no_frame).buffers → IsAmong (record { out = k + o; number = n }) (places_out k fs)
among_out k [] o n l = absurd (omega arith)
among_out k (f ∷ fs) zero n l =
    let e : k ≡ k + 0 = omega arith in
    let d : 0 + n ≡ n = omega arith in
    among_right (record { out = k + 0; number = n }) (places_out (k + 1) fs) (places_from k 0 f.buffers)
    (subst (λ (j : ℕ). IsAmong (record { out = j; number = n }) (places_from k 0 f.buffers)) e (subst (λ (j : ℕ). IsAmong (record { out = k; number = j }) (places_from k 0 f.buffers)) d (among_from k 0 n f.buffers l)))
among_out k (f ∷ fs) (suc o) n l =
    let e : (k + 1) + o ≡ k + suc o = omega arith in
    among_left (record { out = k + suc o; number = n }) (places_out (k + 1) fs) (places_from k 0 f.buffers)
    (subst (λ (j : ℕ). IsAmong (record { out = j; number = n }) (places_out (k + 1) fs)) e (among_out (k + 1) fs o n l))

among_all : (at : Place) (s : State) → at.number < length (frame_out at.out s).buffers → IsAmong at (all_places s)
among_all at s l =
    let e : 0 + at.out ≡ at.out = omega arith in
    subst (λ (j : ℕ). IsAmong (record { out = j; number = at.number }) (all_places s)) e (among_out 0 s.frames at.out at.number l)

-- ---- the copy keeps the number of buffers

length-all_again : (cs : List Content) (bs : List Buffer) → length (contents_restored cs bs) ≡ length bs
length-all_again [] bs = refl
length-all_again (c ∷ cs) [] = refl
length-all_again (c ∷ cs) (b ∷ bs) = let e = length-all_again cs bs in omega arith

length-frames_back : (cs : List Saved) (fs : List CallFrame) (o : ℕ) → length (slice_index_or (frames_restored cs fs) o no_frame).buffers ≡ length (slice_index_or fs o no_frame).buffers
length-frames_back [] fs o = refl
length-frames_back (c ∷ cs) [] o = refl
length-frames_back (c ∷ cs) (f ∷ fs) zero = length-all_again c.contents f.buffers
length-frames_back (c ∷ cs) (f ∷ fs) (suc o) = length-frames_back cs fs o

-- ---- the level is left, and buffers inside are emptied

shared_older : (mark : ℕ) (c : Content) → IsOlder mark c → IsOlder mark (as_share c)
shared_older mark Empty h = tt
shared_older mark (Record row values NoLock made) h = h
shared_older mark (Record row values Share made) h = h
shared_older mark (Record row values Exclusive made) h = h
shared_older mark (Pending values since made) h = h

left_older : (at : Place) (mark : ℕ) (b : Bool) (s : State) → IsOlderAt at mark s → IsOlderAt at mark (left_if b s)
left_older at mark true s h = subst (λ (b : Buffer). IsOlder mark b.content) (sym (shared_at s.frames at.out at.number)) (shared_older mark (content_in at s) h)
left_older at mark false s h = h

all_emptied_older : (at : Place) (mark : ℕ) (bs : List ℕ) (s : State) → IsOlderAt at mark s → IsOlderAt at mark (all_emptied bs s)
all_emptied_older at mark [] s h = h
all_emptied_older at mark (b ∷ bs) s h =
    all_emptied_older at mark bs (emptied b s)
    (subst (λ fs. IsOlder mark (at_numbers fs at.out at.number).content) (sym (emptied_is b s.frames)) (put_keeps_older mark s.frames at.out at.number 0 b Empty tt h))

leaves_older : (at : Place) (mark : ℕ) (but : List ℕ) → Preserves (IsOlderAt at mark) (leaves but)
leaves_older at mark but s ans h =
    preserves_asks (IsOlderAt at mark) (λ s n h. h) (op.Leave (keep_of but s)) was_left
    (λ a. preserves_first (IsOlderAt at mark) left (completes Normal) (λ s. left_older at mark (s.level == 1) s) (preserves_goes (IsOlderAt at mark) Normal)) s ans h

after_back_older : (copy : Copy) (but : List ℕ) (at : Place) (s : State) (ans : List Answer) → at.number < length (frame_out at.out s).buffers → is_left_out but at ≡ false → HoldsRan (IsOlderAt at copy.made) (after_back copy but s ans)
after_back_older copy but at s ans l out =
    let e : length (frame_out at.out (put_back copy s)).buffers ≡ length (frame_out at.out s).buffers = length-frames_back copy.frames s.frames at.out in
    let r : Outcome = updates_places copy.made but (all_places (put_back copy s)) (put_back copy s) ans in
    then_no_undo (IsOlderAt at copy.made) (and_then r (leaves but)) (update_then (all_emptied but) (completes Normal))
    (then_no_undo (IsOlderAt at copy.made) r (leaves but)
    (places_older at copy.made but out (all_places (put_back copy s)) (among_all at (put_back copy s) (omega arith)) (put_back copy s) ans)
    (leaves_older at copy.made but))
    (preserves_first (IsOlderAt at copy.made) (all_emptied but) (completes Normal) (all_emptied_older at copy.made but) (preserves_goes (IsOlderAt at copy.made) Normal))

pub undo_leaves_older : (copy : Copy) (but : List ℕ) (at : Place) (s s' : State) (ans left : List Answer) →
    at.number < length (frame_out at.out s).buffers → is_left_out but at ≡ false → goes_back (Some copy) but s ans ≡ Done Normal s' left → IsOlder copy.made (content_in at s')
undo_leaves_older copy but at s s' ans left l out e =
    undo_ends (IsOlderAt at copy.made) copy but s s' ans left (λ m ans. after_back_older copy but at (record s { units = m }) ans l out) e

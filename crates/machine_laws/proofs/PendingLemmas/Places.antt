-- The places of pending records.
use Rattle.std.proofs.Common.{◌≡◌, ◌⊎◌, inl, inr, refl, sym, subst, ℕ, zero, suc, ◌+◌, arith, List, [], ◌∷◌, ◌++◌, map}
use Rattle.std.specs.Prelude.{slice_index_or, slice_set}
use Rattle.block_meaning.specs.Buffers.{Place, all_places, as_share, buffer_in, buffer_shared, holding_in, own, places_from, places_out, shared}
use Rattle.block_meaning.specs.Frames.{all_emptied, buffer_at, emptied, no_buffer, no_frame, own_frame, with_own}
use Rattle.block_meaning.specs.State.{Buffer, CallFrame, Content, Empty, Exclusive, NoLock, Pending, Record, Share, State}
use Rattle.machine_laws.proofs.PendingLemmas.Pends.{BuffersClaim, Claims, IsClear, None_is}

-- ---- places

abbrev pub IsPending : Content → Type 0
IsPending (Pending values since made) = Unit {0}
IsPending c = ⊥

-- at a place, counted from the innermost procedure
abbrev pub IsPendingAt : ℕ → ℕ → List CallFrame → Type 0
IsPendingAt out n fs = IsPending (slice_index_or (slice_index_or fs out no_frame).buffers n no_buffer).content

abbrev pub IsAmong : ℕ → ℕ → List Place → Type 0
IsAmong out n [] = ⊥
IsAmong out n (at ∷ places) = ((at.out ≡ out) × (at.number ≡ n)) ⊎ IsAmong out n places

-- each pending record is at one of these places
abbrev pub PendingAmong : List Place → List CallFrame → Type 0
PendingAmong places fs = (out n : ℕ) → IsPendingAt out n fs → IsAmong out n places

-- the second places are among the first
abbrev pub Covers : List Place → List Place → Type 0
Covers one other = (out n : ℕ) → IsAmong out n one → IsAmong out n other

pub among_left : (out n : ℕ) (xs ys : List Place) → IsAmong out n xs → IsAmong out n (xs ++ ys)
among_left out n [] ys h = absurd h
among_left out n (x ∷ xs) ys (inl h) = inl h
among_left out n (x ∷ xs) ys (inr h) = inr (among_left out n xs ys h)

pub among_right : (out n : ℕ) (xs ys : List Place) → IsAmong out n ys → IsAmong out n (xs ++ ys)
among_right out n [] ys h = h
among_right out n (x ∷ xs) ys h = inr (among_right out n xs ys h)

pub among_either : (out n : ℕ) (xs ys : List Place) → IsAmong out n (xs ++ ys) → IsAmong out n xs ⊎ IsAmong out n ys
among_either out n [] ys h = inr h
among_either out n (x ∷ xs) ys (inl h) = inl (inl h)
among_either out n (x ∷ xs) ys (inr h) = elim (among_either out n xs ys h) [ inl a ↦ inl (inr a) | inr b ↦ inr b ]

pub covers_more : (places one other : List Place) → Covers one other → Covers (places ++ one) (places ++ other)
covers_more places one other x out n h = elim (among_either out n places one h) [ inl a ↦ among_left out n places other a | inr b ↦ among_right out n places other (x out n b) ]

-- ---- none, and all

none_in : (bs : List Buffer) → ((n : ℕ) → IsPending (slice_index_or bs n no_buffer).content → ⊥) → BuffersClaim None_is bs
none_in [] x = tt
none_in (b ∷ bs) x = (none_at b.content (x zero), none_in bs (λ n. x (suc n)))
  where
    none_at : (c : Content) → (IsPending c → ⊥) → Claims None_is c
    none_at Empty x = tt
    none_at (Record row values lock made) x = tt
    none_at (Pending values since made) x = x tt

pub none_pending : (fs : List CallFrame) → PendingAmong [] fs → IsClear fs
none_pending [] x = tt
none_pending (f ∷ fs) x = (none_in f.buffers (x zero), none_pending fs (λ out. x (suc out)))

clear_at : (c : Content) → Claims None_is c → IsPending c → ⊥
clear_at Empty h p = p
clear_at (Record row values lock made) h p = p
clear_at (Pending values since made) h p = h

clear_in : (bs : List Buffer) (n : ℕ) → BuffersClaim None_is bs → IsPending (slice_index_or bs n no_buffer).content → ⊥
clear_in [] n h p = p
clear_in (b ∷ bs) zero h p = clear_at b.content h.0 p
clear_in (b ∷ bs) (suc n) h p = clear_in bs n h.1 p

pub clear_none : (fs : List CallFrame) (out n : ℕ) → IsClear fs → IsPendingAt out n fs → ⊥
clear_none [] out n h p = p
clear_none (f ∷ fs) zero n h p = clear_in f.buffers n h.0 p
clear_none (f ∷ fs) (suc out) n h p = clear_none fs out n h.1 p

pub clear_among : (places : List Place) (fs : List CallFrame) → IsClear fs → PendingAmong places fs
clear_among places fs h out n p = absurd (clear_none fs out n h p)

from_among : (k i n : ℕ) (bs : List Buffer) → IsPending (slice_index_or bs n no_buffer).content → IsAmong k (i + n) (places_from k i bs)
from_among k i n [] p = absurd p
from_among k i zero (b ∷ bs) p = inl (refl, omega arith)
from_among k i (suc n) (b ∷ bs) p = inr (subst (λ j. IsAmong k j (places_from k (i + 1) bs)) (omega arith) (from_among k (i + 1) n bs p))

out_among : (k out n : ℕ) (fs : List CallFrame) → IsPendingAt out n fs → IsAmong (k + out) n (places_out k fs)
out_among k out n [] p = absurd p
out_among k zero n (f ∷ fs) p = among_right (k + 0) n (places_out (k + 1) fs) (places_from k 0 f.buffers) (subst (λ j. IsAmong j n (places_from k 0 f.buffers)) (omega arith) (subst (λ i. IsAmong k i (places_from k 0 f.buffers)) (omega arith) (from_among k 0 n f.buffers p)))
out_among k (suc out) n (f ∷ fs) p = among_left (k + suc out) n (places_out (k + 1) fs) (places_from k 0 f.buffers) (subst (λ j. IsAmong j n (places_out (k + 1) fs)) (omega arith) (out_among (k + 1) out n fs p))

pub all_among : (s : State) → PendingAmong (all_places s) s.frames
all_among s out n p = subst (λ j. IsAmong j n (all_places s)) (omega arith) (out_among 0 out n s.frames p)

-- ---- one place less

-- what is pending in a buffer of a list after another content is put at a place was so before, and is not there
set_in_buffers : (bs : List Buffer) (i n : ℕ) (b : Buffer) → (IsPending b.content → ⊥) → IsPending (slice_index_or (slice_set bs i b) n no_buffer).content → IsPending (slice_index_or bs n no_buffer).content × (i ≡ n → ⊥)
set_in_buffers [] i n b x p = absurd p
set_in_buffers (c ∷ bs) zero zero b x p = absurd (x p)
set_in_buffers (c ∷ bs) zero (suc n) b x p = (p, λ e. omega (arith, e))
set_in_buffers (c ∷ bs) (suc i) zero b x p = (p, λ e. omega (arith, e))
set_in_buffers (c ∷ bs) (suc i) (suc n) b x p = (let h = set_in_buffers bs i n b x p in (h.0, λ e. h.1 (omega (arith, e))))

set_in_frames : (fs : List CallFrame) (o i out n : ℕ) (b : Buffer) → (IsPending b.content → ⊥) →
    IsPendingAt out n (slice_set fs o (record (slice_index_or fs o no_frame) { buffers = slice_set (slice_index_or fs o no_frame).buffers i b })) → IsPendingAt out n fs × ((o ≡ out) × (i ≡ n) → ⊥)
set_in_frames [] o i out n b x p = absurd p
set_in_frames (f ∷ fs) zero i zero n b x p = (let h = set_in_buffers f.buffers i n b x p in (h.0, λ e. h.1 e.1))
set_in_frames (f ∷ fs) zero i (suc out) n b x p = (p, λ e. (let z = e.0 in omega (arith, z)))
set_in_frames (f ∷ fs) (suc o) i zero n b x p = (p, λ e. (let z = e.0 in omega (arith, z)))
set_in_frames (f ∷ fs) (suc o) i (suc out) n b x p = (let h = set_in_frames fs o i out n b x p in (h.0, λ e. (let z = e.0 in h.1 (omega (arith, z), e.1))))

less_one : (place : Place) (places : List Place) (out n : ℕ) → IsAmong out n (place ∷ places) → ((place.out ≡ out) × (place.number ≡ n) → ⊥) → IsAmong out n places
less_one place places out n (inl h) x = absurd (x h)
less_one place places out n (inr h) x = h

-- a buffer has then a content that is not pending
pub held_among : (place : Place) (c : Content) (places : List Place) (s : State) → (IsPending c → ⊥) → PendingAmong (place ∷ places) s.frames → PendingAmong places (holding_in place c s).frames
held_among place c places s x h out n p =
    let before = set_in_frames s.frames place.out place.number out n (record (buffer_in place s) { content = c }) x p in
    less_one place places out n (h out n before.0) before.1

-- or had one before
pub free_among : (place : Place) (places : List Place) (s : State) → (IsPending (buffer_in place s).content → ⊥) → PendingAmong (place ∷ places) s.frames → PendingAmong places s.frames
free_among place places s x h out n p = less_one place places out n (h out n p) (λ e. x (subst (λ i. IsPendingAt i place.number s.frames) (sym e.0) (subst (λ i. IsPendingAt out i s.frames) (sym e.1) p)))

-- a buffer of the running procedure is emptied
own_among : (fs : List CallFrame) (b out n : ℕ) (x : Buffer) → (IsPending x.content → ⊥) → IsPendingAt out n (with_own (record (own_frame fs) { buffers = slice_set (own_frame fs).buffers b x }) fs) → IsPendingAt out n fs × ((0 ≡ out) × (b ≡ n) → ⊥)
own_among [] b out n x h p = absurd p
own_among (f ∷ fs) b zero n x h p = (let g = set_in_buffers f.buffers b n x h p in (g.0, λ e. g.1 e.1))
own_among (f ∷ fs) b (suc out) n x h p = (p, λ e. (let z = e.0 in omega (arith, z)))

pub emptied_among : (b : ℕ) (places : List Place) (s : State) → PendingAmong (own b ∷ places) s.frames → PendingAmong places (emptied b s).frames
emptied_among b places s h out n p =
    let before = own_among s.frames b out n (record (buffer_at b s) { content = Empty }) (λ e. e) p in
    less_one (own b) places out n (h out n before.0) before.1

pub all_emptied_among : (bs : List ℕ) (s : State) → PendingAmong (map own bs) s.frames → IsClear (all_emptied bs s).frames
all_emptied_among [] s h = none_pending s.frames h
all_emptied_among (b ∷ bs) s h = all_emptied_among bs (emptied b s) (emptied_among b (map own bs) s h)

-- ---- shared locks

share_pending : (c : Content) → IsPending (as_share c) → IsPending c
share_pending Empty p = p
share_pending (Record row values NoLock made) p = p
share_pending (Record row values Share made) p = p
share_pending (Record row values Exclusive made) p = p
share_pending (Pending values since made) p = p

buffers_shared_pending : (bs : List Buffer) (n : ℕ) → IsPending (slice_index_or (map buffer_shared bs) n no_buffer).content → IsPending (slice_index_or bs n no_buffer).content
buffers_shared_pending [] n p = p
buffers_shared_pending (b ∷ bs) zero p = share_pending b.content p
buffers_shared_pending (b ∷ bs) (suc n) p = buffers_shared_pending bs n p

frames_shared_pending : (fs : List CallFrame) (out n : ℕ) → IsPendingAt out n (shared fs) → IsPendingAt out n fs
frames_shared_pending [] out n p = p
frames_shared_pending (f ∷ fs) zero n p = buffers_shared_pending f.buffers n p
frames_shared_pending (f ∷ fs) (suc out) n p = frames_shared_pending fs out n p

pub shared_among : (places : List Place) (fs : List CallFrame) → PendingAmong places fs → PendingAmong places (shared fs)
shared_among places fs h out n p = h out n (frames_shared_pending fs out n p)

-- What the buffers of a client claim: each record that one holds exclusively is of a row that the client holds so. And how changes of the
-- state keep this.
use Rattle.std.proofs.Common.{◌≡◌, inl, inr, refl, ap, ◌∙◌, subst, ℕ, zero, suc, ◌+◌, ◌<◌, arith, Bool, true, false, List, [], ◌∷◌, Option, Some, None, map}
use Rattle.std.specs.Prelude.{◌==◌, ◌&&◌, ◌||◌, not, nat_lt, slice_index_or, slice_set}
use Rattle.std.proofs.lemmas.Bool.Decides.{eqb_tells, nat_tests}
use Rattle.abl_base.specs.declared.row.RowId.{RowId}
use Rattle.abl_base.specs.declared.value.Value.{Value}
use Rattle.bound_tree.specs.declared.expression.Variable.{Variable}
use Rattle.bound_tree.specs.Tree.{Argument, In, InOut, Out}
use Rattle.block_meaning.specs.Buffers.{Place, as_share, buffer_in, buffer_shared, frame_out, holding_in, is_row_in, keep_of, placed, rows_from, rows_in, all_rows, shared, unless_in, with_row, with_row_of}
use Rattle.block_meaning.specs.Changes.{as_before}
use Rattle.block_meaning.specs.Frames.{all_emptied, assigned, buffer_at, content_of, content_restored, contents_restored, emptied, frame_for, frames_restored, holding, last_frame, locked_row, marked_locked, no_buffer, no_frame, own_frame, put_back, set_in, with_buffer, with_frame_for, with_last, with_own, with_spot}
use Rattle.block_meaning.specs.Meaning.{copied_out, new_buffer, new_frame, opened_frame, params_set, popped, without_frame}
use Rattle.block_meaning.specs.Program.{Program, procedure_at}
use Rattle.bound_tree.specs.declared.procedure.BufferDef.{BufferDef}
use Rattle.block_meaning.specs.State.{Buffer, CallFrame, Content, Copy, Empty, Exclusive, Held, NoLock, Pending, Record, Saved, Share, Spot, State}
use Rattle.flat_machine.specs.Means.{contents_back, first_of, less}

-- ---- claims

-- of a content, where `held` tells the rows that the client holds exclusively
abbrev pub Claims : (ℕ → Bool) → Content → Type 0
Claims held (Record row values Exclusive made) = held row.0 ≡ true
Claims held c = Unit {0}

abbrev pub BuffersClaim : (ℕ → Bool) → List Buffer → Type 0
BuffersClaim held [] = Unit {0}
BuffersClaim held (b ∷ bs) = Claims held b.content × BuffersClaim held bs

-- of all open procedures
abbrev pub FramesClaim : (ℕ → Bool) → List CallFrame → Type 0
FramesClaim held [] = Unit {0}
FramesClaim held (f ∷ fs) = BuffersClaim held f.buffers × FramesClaim held fs

-- the first rows are among the second
abbrev pub AreAmong : (ℕ → Bool) → (ℕ → Bool) → Type 0
AreAmong held more = (row : ℕ) → held row ≡ true → more row ≡ true

pub claims_more : (held more : ℕ → Bool) (c : Content) → AreAmong held more → Claims held c → Claims more c
claims_more held more Empty x h = tt
claims_more held more (Record row values NoLock made) x h = tt
claims_more held more (Record row values Share made) x h = tt
claims_more held more (Record row values Exclusive made) x h = x row.0 h
claims_more held more (Pending values since made) x h = tt

buffers_more : (held more : ℕ → Bool) (bs : List Buffer) → AreAmong held more → BuffersClaim held bs → BuffersClaim more bs
buffers_more held more [] x h = tt
buffers_more held more (b ∷ bs) x h = (claims_more held more b.content x h.0, buffers_more held more bs x h.1)

pub frames_more : (held more : ℕ → Bool) (fs : List CallFrame) → AreAmong held more → FramesClaim held fs → FramesClaim more fs
frames_more held more [] x h = tt
frames_more held more (f ∷ fs) x h = (buffers_more held more f.buffers x h.0, frames_more held more fs x h.1)

-- the lock decides, whatever the values
pub of_values : (held : ℕ → Bool) (row : RowId) (lock : Held) (vs ws : List Value) (m n : Option ℕ) → Claims held (Record row vs lock m) → Claims held (Record row ws lock n)
of_values held row NoLock vs ws m n h = tt
of_values held row Share vs ws m n h = tt
of_values held row Exclusive vs ws m n h = h

-- ---- reading a buffer

buffer_claims : (held : ℕ → Bool) (bs : List Buffer) (n : ℕ) → BuffersClaim held bs → Claims held (slice_index_or bs n no_buffer).content
buffer_claims held [] n h = tt
buffer_claims held (b ∷ bs) zero h = h.0
buffer_claims held (b ∷ bs) (suc n) h = buffer_claims held bs n h.1

frame_claims : (held : ℕ → Bool) (fs : List CallFrame) (n : ℕ) → FramesClaim held fs → BuffersClaim held (slice_index_or fs n no_frame).buffers
frame_claims held [] n h = tt
frame_claims held (f ∷ fs) zero h = h.0
frame_claims held (f ∷ fs) (suc n) h = frame_claims held fs n h.1

own_claims : (held : ℕ → Bool) (fs : List CallFrame) → FramesClaim held fs → BuffersClaim held (own_frame fs).buffers
own_claims held [] h = tt
own_claims held (f ∷ fs) h = h.0

pub content_claims : (held : ℕ → Bool) (b : ℕ) (s : State) → FramesClaim held s.frames → Claims held (content_of b s)
content_claims held b s h = buffer_claims held (own_frame s.frames).buffers b (own_claims held s.frames h)

pub place_claims : (held : ℕ → Bool) (place : Place) (s : State) → FramesClaim held s.frames → Claims held (buffer_in place s).content
place_claims held place s h = buffer_claims held (frame_out place.out s).buffers place.number (frame_claims held s.frames place.out h)

-- ---- changing a buffer

buffers_set : (held : ℕ → Bool) (bs : List Buffer) (n : ℕ) (b : Buffer) → BuffersClaim held bs → Claims held b.content → BuffersClaim held (slice_set bs n b)
buffers_set held [] n b h x = tt
buffers_set held (c ∷ bs) zero b h x = (x, h.1)
buffers_set held (c ∷ bs) (suc n) b h x = (h.0, buffers_set held bs n b h.1 x)

frames_set : (held : ℕ → Bool) (fs : List CallFrame) (n : ℕ) (f : CallFrame) → FramesClaim held fs → BuffersClaim held f.buffers → FramesClaim held (slice_set fs n f)
frames_set held [] n f h x = tt
frames_set held (g ∷ fs) zero f h x = (x, h.1)
frames_set held (g ∷ fs) (suc n) f h x = (h.0, frames_set held fs n f h.1 x)

own_set : (held : ℕ → Bool) (f : CallFrame) (fs : List CallFrame) → FramesClaim held fs → BuffersClaim held f.buffers → FramesClaim held (with_own f fs)
own_set held f [] h x = tt
own_set held f (g ∷ fs) h x = (x, h.1)

pub buffer_keeps : (held : ℕ → Bool) (b : ℕ) (x : Buffer) (s : State) → FramesClaim held s.frames → Claims held x.content → FramesClaim held (with_buffer b x s).frames
buffer_keeps held b x s h is =
    own_set held (record (own_frame s.frames) { buffers = slice_set (own_frame s.frames).buffers b x }) s.frames h (buffers_set held (own_frame s.frames).buffers b x (own_claims held s.frames h) is)

pub holding_keeps : (held : ℕ → Bool) (b : ℕ) (c : Content) (s : State) → FramesClaim held s.frames → Claims held c → FramesClaim held (holding b c s).frames
holding_keeps held b c s h is = buffer_keeps held b (record (buffer_at b s) { content = c }) s h is

pub emptied_keeps : (held : ℕ → Bool) (b : ℕ) (s : State) → FramesClaim held s.frames → FramesClaim held (emptied b s).frames
emptied_keeps held b s h = holding_keeps held b Empty s h tt

pub all_emptied_keeps : (held : ℕ → Bool) (bs : List ℕ) (s : State) → FramesClaim held s.frames → FramesClaim held (all_emptied bs s).frames
all_emptied_keeps held [] s h = h
all_emptied_keeps held (b ∷ bs) s h = all_emptied_keeps held bs (emptied b s) (emptied_keeps held b s h)

pub all_emptied_level : (bs : List ℕ) (s : State) → (all_emptied bs s).level ≡ s.level
all_emptied_level [] s = refl
all_emptied_level (b ∷ bs) s = all_emptied_level bs (emptied b s)

pub marked_keeps : (held : ℕ → Bool) (b : ℕ) (is : Bool) (s : State) → FramesClaim held s.frames → FramesClaim held (marked_locked b is s).frames
marked_keeps held b is s h = buffer_keeps held b (record (buffer_at b s) { locked = is }) s h (content_claims held b s h)

pub spot_keeps : (held : ℕ → Bool) (b : ℕ) (spot : Option Spot) (s : State) → FramesClaim held s.frames → FramesClaim held (with_spot b spot s).frames
spot_keeps held b spot s h = buffer_keeps held b (record (buffer_at b s) { spot = spot }) s h (content_claims held b s h)

pub holding_in_keeps : (held : ℕ → Bool) (place : Place) (c : Content) (s : State) → FramesClaim held s.frames → Claims held c → FramesClaim held (holding_in place c s).frames
holding_in_keeps held place c s h is =
    frames_set held s.frames place.out _ h (buffers_set held (frame_out place.out s).buffers place.number (record (buffer_in place s) { content = c }) (frame_claims held s.frames place.out h) is)

-- ---- variables

set_keeps : (held : ℕ → Bool) (u : Bool) (n : ℕ) (v : Value) (f : CallFrame) → BuffersClaim held f.buffers → BuffersClaim held (set_in u n v f).buffers
set_keeps held true n v f h = h
set_keeps held false n v f h = h

last_keeps : (held : ℕ → Bool) (u : Bool) (n : ℕ) (v : Value) (fs : List CallFrame) → FramesClaim held fs → FramesClaim held (with_last (set_in u n v (last_frame fs)) fs)
last_keeps held u n v [] h = tt
last_keeps held u n v (f ∷ []) h = (set_keeps held u n v f h.0, tt)
last_keeps held u n v (f ∷ g ∷ fs) h = (h.0, last_keeps held u n v (g ∷ fs) h.1)

variable_keeps : (held : ℕ → Bool) (external u : Bool) (n : ℕ) (v : Value) (fs : List CallFrame) → FramesClaim held fs → FramesClaim held (with_frame_for external (set_in u n v (frame_for external fs)) fs)
variable_keeps held true u n v fs h = last_keeps held u n v fs h
variable_keeps held false u n v fs h = own_set held (set_in u n v (own_frame fs)) fs h (set_keeps held u n v (own_frame fs) (own_claims held fs h))

pub assigned_keeps : (held : ℕ → Bool) (x : Variable) (v : Value) (s : State) → FramesClaim held s.frames → FramesClaim held (assigned x v s).frames
assigned_keeps held x v s h = variable_keeps held x.external x.undoable x.number v s.frames h

-- ---- procedures

new_claims : (held : ℕ → Bool) (bs : List BufferDef) → BuffersClaim held (map new_buffer bs)
new_claims held [] = tt
new_claims held (b ∷ bs) = (tt, new_claims held bs)

params_keep : (held : ℕ → Bool) (args : List Argument) (xs : List Variable) (vs : List Value) (f : CallFrame) → BuffersClaim held f.buffers → BuffersClaim held (params_set args xs vs f).buffers
params_keep held [] xs vs f h = h
params_keep held (a ∷ rest) [] vs f h = h
params_keep held (a ∷ rest) (x ∷ xs) [] f h = h
params_keep held (In e ∷ rest) (x ∷ xs) (v ∷ vs) f h = params_keep held rest xs vs (set_in x.undoable x.number v f) (set_keeps held x.undoable x.number v f h)
params_keep held (InOut y ∷ rest) (x ∷ xs) (v ∷ vs) f h = params_keep held rest xs vs (set_in x.undoable x.number v f) (set_keeps held x.undoable x.number v f h)
params_keep held (Out y ∷ rest) (x ∷ xs) (v ∷ vs) f h = params_keep held rest xs vs f h

pub start_claims : (held : ℕ → Bool) (p : Program) (n : ℕ) → BuffersClaim held (new_frame p n).buffers
start_claims held p n = new_claims held (procedure_at p n).buffers

pub opened_keeps : (held : ℕ → Bool) (p : Program) (n : ℕ) (args : List Argument) (vs : List Value) (s : State) → FramesClaim held s.frames → FramesClaim held (opened_frame p n args vs s).frames
opened_keeps held p n args vs s h = (params_keep held args (procedure_at p n).parameters vs (new_frame p n) (start_claims held p n), h)

popped_keeps : (held : ℕ → Bool) (fs : List CallFrame) → FramesClaim held fs → FramesClaim held (popped fs)
popped_keeps held [] h = tt
popped_keeps held (f ∷ fs) h = h.1

pub without_keeps : (held : ℕ → Bool) (s : State) → FramesClaim held s.frames → FramesClaim held (without_frame s).frames
without_keeps held s h = popped_keeps held s.frames h

pub copied_keeps : (held : ℕ → Bool) (args : List Argument) (xs : List Variable) (f : CallFrame) (s : State) → FramesClaim held s.frames → FramesClaim held (copied_out args xs f s).frames
copied_keeps held [] xs f s h = h
copied_keeps held (a ∷ rest) [] f s h = h
copied_keeps held (In e ∷ rest) (x ∷ xs) f s h = copied_keeps held rest xs f s h
copied_keeps held (InOut y ∷ rest) (x ∷ xs) f s h = copied_keeps held rest xs f _ (assigned_keeps held y _ s h)
copied_keeps held (Out y ∷ rest) (x ∷ xs) f s h = copied_keeps held rest xs f _ (assigned_keeps held y _ s h)

pub copied_level : (args : List Argument) (xs : List Variable) (f : CallFrame) (s : State) → (copied_out args xs f s).level ≡ s.level
copied_level [] xs f s = refl
copied_level (a ∷ rest) [] f s = refl
copied_level (In e ∷ rest) (x ∷ xs) f s = copied_level rest xs f s
copied_level (InOut y ∷ rest) (x ∷ xs) f s = copied_level rest xs f _
copied_level (Out y ∷ rest) (x ∷ xs) f s = copied_level rest xs f _

-- ---- the end of a level, and UNDO

share_claims : (held : ℕ → Bool) (c : Content) → Claims held (as_share c)
share_claims held Empty = tt
share_claims held (Record row values NoLock made) = tt
share_claims held (Record row values Share made) = tt
share_claims held (Record row values Exclusive made) = tt
share_claims held (Pending values since made) = tt

buffers_shared_claim : (held : ℕ → Bool) (bs : List Buffer) → BuffersClaim held (map buffer_shared bs)
buffers_shared_claim held [] = tt
buffers_shared_claim held (b ∷ bs) = (share_claims held b.content, buffers_shared_claim held bs)

-- where no buffer has an exclusive lock, nothing is claimed
pub shared_claim : (held : ℕ → Bool) (fs : List CallFrame) → FramesClaim held (shared fs)
shared_claim held [] = tt
shared_claim held (f ∷ fs) = (buffers_shared_claim held f.buffers, shared_claim held fs)

restored_claims : (held : ℕ → Bool) (c : Content) (b : Buffer) → Claims held b.content → Claims held (content_restored c b).content
restored_claims held Empty b h = h
restored_claims held (Record row values lock made) b h = h
restored_claims held (Pending values since made) b h = tt

buffers_restored_claim : (held : ℕ → Bool) (cs : List Content) (bs : List Buffer) → BuffersClaim held bs → BuffersClaim held (contents_restored cs bs)
buffers_restored_claim held [] bs h = h
buffers_restored_claim held (c ∷ cs) [] h = tt
buffers_restored_claim held (c ∷ cs) (b ∷ bs) h = (restored_claims held c b h.0, buffers_restored_claim held cs bs h.1)

frames_restored_claim : (held : ℕ → Bool) (cs : List Saved) (fs : List CallFrame) → FramesClaim held fs → FramesClaim held (frames_restored cs fs)
frames_restored_claim held [] fs h = h
frames_restored_claim held (c ∷ cs) [] h = tt
frames_restored_claim held (c ∷ cs) (f ∷ fs) h = (buffers_restored_claim held c.contents f.buffers h.0, frames_restored_claim held cs fs h.1)

pub put_back_keeps : (held : ℕ → Bool) (copy : Copy) (s : State) → FramesClaim held s.frames → FramesClaim held (put_back copy s).frames
put_back_keeps held copy s h = frames_restored_claim held copy.frames s.frames h

-- ---- a fault puts contents back, with the present locks

before_claims : (held : ℕ → Bool) (old now : Content) → Claims held now → Claims held (as_before old now)
before_claims held Empty now h = h
before_claims held (Record row values lock made) Empty h = h
before_claims held (Record row values lock made) (Record r vs NoLock m) h = tt
before_claims held (Record row values lock made) (Record r vs Share m) h = tt
before_claims held (Record row values lock made) (Record r vs Exclusive m) h = h
before_claims held (Record row values lock made) (Pending vs since m) h = h
before_claims held (Pending values since made) Empty h = h
before_claims held (Pending values since made) (Record r vs lock m) h = h
before_claims held (Pending values since made) (Pending vs others m) h = tt

pub back_keeps : (held : ℕ → Bool) (cs : List Content) (bs : List ℕ) (s : State) → FramesClaim held s.frames → FramesClaim held (contents_back cs bs s).frames
back_keeps held cs [] s h = h
back_keeps held cs (b ∷ bs) s h =
    back_keeps held (less cs) bs (holding b (as_before (first_of cs) (content_of b s)) s) (holding_keeps held b (as_before (first_of cs) (content_of b s)) s h (before_claims held (first_of cs) (content_of b s) (content_claims held b s h)))

pub back_level : (cs : List Content) (bs : List ℕ) (s : State) → (contents_back cs bs s).level ≡ s.level
back_level cs [] s = refl
back_level cs (b ∷ bs) s = back_level (less cs) bs (holding b (as_before (first_of cs) (content_of b s)) s)

-- ---- no other buffer holds the row

-- the rows without this one
abbrev pub without_row : RowId → (ℕ → Bool) → ℕ → Bool
without_row row held = λ r. not (row.0 == r) && held r

either_false : (a b : Bool) → (a || b) ≡ false → (a ≡ false) × (b ≡ false)
either_false true b e = cc
either_false false b e = (refl, e)

placed_has : (row n m : RowId) (ms rest : List RowId) (same before : Bool) → (n.0 == m.0) ≡ same → is_row_in row (placed same before n m ms rest) ≡ false → (is_row_in row rest ≡ false → (((row.0 == n.0) ≡ false) × (is_row_in row ms ≡ false))) → ((row.0 == n.0) ≡ false) × (is_row_in row (m ∷ ms) ≡ false)
placed_has row n m ms rest true before is h x =
    let both = either_false (row.0 == m.0) (is_row_in row ms) h in
    elim (eqb_tells n.0 m.0) [
      | inl same ↦ (ap (λ k. row.0 == k) same.1 ∙ both.0, h)
      | inr other ↦ cc
    ]
placed_has row n m ms rest false true is h x = either_false (row.0 == n.0) (is_row_in row (m ∷ ms)) h
placed_has row n m ms rest false false is h x =
    let both = either_false (row.0 == m.0) (is_row_in row rest) h in
    let rest_has = x both.1 in
    (rest_has.0, ap (λ b. b || is_row_in row ms) both.0 ∙ rest_has.1)

with_has : (row n : RowId) (rows : List RowId) → is_row_in row (with_row n rows) ≡ false → ((row.0 == n.0) ≡ false) × (is_row_in row rows ≡ false)
with_has row n [] h = ((either_false (row.0 == n.0) false h).0, refl)
with_has row n (m ∷ ms) h = placed_has row n m ms (with_row n ms) (n.0 == m.0) (nat_lt n.0 m.0) refl h (with_has row n ms)

all_has : (row : RowId) (rows others : List RowId) → is_row_in row (all_rows rows others) ≡ false → (is_row_in row rows ≡ false) × (is_row_in row others ≡ false)
all_has row [] others h = (refl, h)
all_has row (r ∷ rs) others h =
    let one = with_has row r (all_rows rs others) h in
    let more = all_has row rs others one.1 in
    (ap (λ b. b || is_row_in row rs) one.0 ∙ more.0, more.1)

-- the row is none that a content locks
abbrev IsNoneOf : RowId → Option RowId → Type 0
IsNoneOf row None = Unit {0}
IsNoneOf row (Some r) = (row.0 == r.0) ≡ false

with_of_has : (row : RowId) (o : Option RowId) (rows : List RowId) → is_row_in row (with_row_of o rows) ≡ false → IsNoneOf row o × (is_row_in row rows ≡ false)
with_of_has row None rows h = (tt, h)
with_of_has row (Some r) rows h = with_has row r rows h

both_true : (a b : Bool) → a ≡ false → b ≡ true → (not a && b) ≡ true
both_true true b e f = cc
both_true false b e f = f

none_claims : (held : ℕ → Bool) (row : RowId) (c : Content) → IsNoneOf row (locked_row c) → Claims held c → Claims (without_row row held) c
none_claims held row Empty x h = tt
none_claims held row (Record r values NoLock made) x h = tt
none_claims held row (Record r values Share made) x h = tt
none_claims held row (Record r values Exclusive made) x h = both_true (row.0 == r.0) (held r.0) x h
none_claims held row (Pending values since made) x h = tt

-- the buffers from number n on, where that with number b is emptied
rest_claims : (held : ℕ → Bool) (row : RowId) (n : ℕ) (bs : List Buffer) → is_row_in row (rows_from n [] bs) ≡ false → BuffersClaim held bs → BuffersClaim (without_row row held) bs
rest_claims held row n [] x h = tt
rest_claims held row n (b ∷ bs) x h =
    let one = with_of_has row (locked_row b.content) (rows_from (n + 1) [] bs) x in
    (none_claims held row b.content one.0 h.0, rest_claims held row (n + 1) bs one.1 h.1)

emptied_claims : (held : ℕ → Bool) (row : RowId) (but n i : ℕ) (bs : List Buffer) (x : Buffer) → but ≡ n + i → Claims (without_row row held) x.content → is_row_in row (rows_from n (but ∷ []) bs) ≡ false → BuffersClaim held bs → BuffersClaim (without_row row held) (slice_set bs i x)
emptied_claims held row but n i [] x e is r h = tt
emptied_claims held row but n zero (b ∷ bs) x e is r h = (is, later_claims held row but (n + 1) bs (omega (arith, e)) (with_of_has row (unless_in ((n == but) || false) (locked_row b.content)) (rows_from (n + 1) (but ∷ []) bs) r).1 h.1)
  where
    -- those after it are all looked at
    later_claims : (held : ℕ → Bool) (row : RowId) (but n : ℕ) (bs : List Buffer) → but < n → is_row_in row (rows_from n (but ∷ []) bs) ≡ false → BuffersClaim held bs → BuffersClaim (without_row row held) bs
    later_claims held row but n [] less r h = tt
    later_claims held row but n (b ∷ bs) less r h =
        let no : ((n == but) || false) ≡ false = grind (arith, nat_tests, less) in
        let one = with_of_has row (unless_in ((n == but) || false) (locked_row b.content)) (rows_from (n + 1) (but ∷ []) bs) r in
        (none_claims held row b.content (subst (λ t. IsNoneOf row (unless_in t (locked_row b.content))) no one.0) h.0, later_claims held row but (n + 1) bs (omega (arith, less)) one.1 h.1)
emptied_claims held row but n (suc i) (b ∷ bs) x e is r h =
    let no : ((n == but) || false) ≡ false = grind (arith, nat_tests, e) in
    let one = with_of_has row (unless_in ((n == but) || false) (locked_row b.content)) (rows_from (n + 1) (but ∷ []) bs) r in
    (none_claims held row b.content (subst (λ t. IsNoneOf row (unless_in t (locked_row b.content))) no one.0) h.0, emptied_claims held row but (n + 1) i bs x (omega (arith, e)) is one.1 h.1)

others_claim : (held : ℕ → Bool) (row : RowId) (fs : List CallFrame) → is_row_in row (rows_in [] fs) ≡ false → FramesClaim held fs → FramesClaim (without_row row held) fs
others_claim held row [] x h = tt
others_claim held row (f ∷ fs) x h =
    let both = all_has row (rows_from 0 [] f.buffers) (rows_in [] fs) x in
    (rest_claims held row 0 f.buffers both.0 h.0, others_claim held row fs both.1 h.1)

alone_claims : (held : ℕ → Bool) (row : RowId) (b : ℕ) (x : Buffer) (fs : List CallFrame) → Claims (without_row row held) x.content → is_row_in row (rows_in (b ∷ []) fs) ≡ false → FramesClaim held fs →
    FramesClaim (without_row row held) (with_own (record (own_frame fs) { buffers = slice_set (own_frame fs).buffers b x }) fs)
alone_claims held row b x [] is r h = tt
alone_claims held row b x (f ∷ fs) is r h =
    let both = all_has row (rows_from 0 (b ∷ []) f.buffers) (rows_in [] fs) r in
    (emptied_claims held row b 0 b f.buffers x (omega arith) is both.0 h.0, others_claim held row fs both.1 h.1)

-- where no other buffer holds the row, and this one is emptied, no buffer claims it
pub dropped_keeps : (held : ℕ → Bool) (row : RowId) (b : ℕ) (s : State) → is_row_in row (keep_of (b ∷ []) s) ≡ false → FramesClaim held s.frames → FramesClaim (without_row row held) (emptied b s).frames
dropped_keeps held row b s r h = alone_claims held row b (record (buffer_at b s) { content = Empty }) s.frames tt r h

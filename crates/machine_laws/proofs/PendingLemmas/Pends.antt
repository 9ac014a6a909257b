-- The pending records of a client, by the numbers of the CREATEs that made them. And how changes of the state keep what holds of them.
use Rattle.std.proofs.Common.{◌≡◌, refl, ℕ, zero, suc, Bool, true, false, List, [], ◌∷◌, Option, map}
use Rattle.std.specs.Prelude.{slice_index_or, slice_set}
use Rattle.abl_base.specs.declared.value.Kind.{Kind}
use Rattle.abl_base.specs.declared.value.Value.{Value}
use Rattle.bound_tree.specs.declared.expression.Variable.{Variable}
use Rattle.bound_tree.specs.declared.procedure.BufferDef.{BufferDef}
use Rattle.bound_tree.specs.declared.statement.Target.{Target}
use Rattle.bound_tree.specs.declared.statement.Target.TheVariants as target
use Rattle.bound_tree.specs.Tree.{Argument, In, InOut, Out}
use Rattle.block_meaning.specs.Buffers.{Place, as_share, buffer_in, buffer_shared, frame_out, holding_in, shared}
use Rattle.block_meaning.specs.Changes.{as_before, stored, stored_if, stored_in, stored_value, with_field}
use Rattle.block_meaning.specs.Frames.{all_emptied, assigned, buffer_at, content_of, content_restored, contents_restored, copy_of, emptied, frame_for, frames_restored, holding, last_frame, marked_locked, no_buffer, no_frame, own_frame, pending_of, put_back, saved_of, set_in, with_buffer, with_frame_for, with_last, with_own, with_spot}
use Rattle.block_meaning.specs.Meaning.{copied_out, new_buffer, new_frame, opened_frame, params_set, popped, without_frame}
use Rattle.block_meaning.specs.Program.{Program, procedure_at}
use Rattle.block_meaning.specs.State.{Buffer, CallFrame, Content, Copy, Empty, Exclusive, NoLock, Pending, Record, Saved, Share, Spot, State}
use Rattle.block_meaning.specs.Values.{Evaluated, Fails, Gives, fit}
use Rattle.flat_machine.specs.Means.{contents_back, first_of, less}

-- ---- pending records

-- a pending record is of a CREATE of which this holds
abbrev pub Claims : (ℕ → Type 0) → Content → Type 0
Claims held (Pending values since made) = held made
Claims held c = Unit {0}

abbrev pub BuffersClaim : (ℕ → Type 0) → List Buffer → Type 0
BuffersClaim held [] = Unit {0}
BuffersClaim held (b ∷ bs) = Claims held b.content × BuffersClaim held bs

-- those of all open procedures
abbrev pub FramesClaim : (ℕ → Type 0) → List CallFrame → Type 0
FramesClaim held [] = Unit {0}
FramesClaim held (f ∷ fs) = BuffersClaim held f.buffers × FramesClaim held fs

abbrev pub None_is : ℕ → Type 0
None_is made = ⊥

-- no record is pending
abbrev pub IsClear : List CallFrame → Type 0
IsClear fs = FramesClaim None_is fs

abbrev pub AreAmong : (ℕ → Type 0) → (ℕ → Type 0) → Type 0
AreAmong held more = (made : ℕ) → held made → more made

claims_more : (held more : ℕ → Type 0) (c : Content) → AreAmong held more → Claims held c → Claims more c
claims_more held more Empty x h = tt
claims_more held more (Record row values lock made) x h = tt
claims_more held more (Pending values since made) x h = x made h

buffers_more : (held more : ℕ → Type 0) (bs : List Buffer) → AreAmong held more → BuffersClaim held bs → BuffersClaim more bs
buffers_more held more [] x h = tt
buffers_more held more (b ∷ bs) x h = (claims_more held more b.content x h.0, buffers_more held more bs x h.1)

pub frames_more : (held more : ℕ → Type 0) (fs : List CallFrame) → AreAmong held more → FramesClaim held fs → FramesClaim more fs
frames_more held more [] x h = tt
frames_more held more (f ∷ fs) x h = (buffers_more held more f.buffers x h.0, frames_more held more fs x h.1)

-- ---- reading a buffer

buffer_claims : (held : ℕ → Type 0) (bs : List Buffer) (n : ℕ) → BuffersClaim held bs → Claims held (slice_index_or bs n no_buffer).content
buffer_claims held [] n h = tt
buffer_claims held (b ∷ bs) zero h = h.0
buffer_claims held (b ∷ bs) (suc n) h = buffer_claims held bs n h.1

frame_claims : (held : ℕ → Type 0) (fs : List CallFrame) (n : ℕ) → FramesClaim held fs → BuffersClaim held (slice_index_or fs n no_frame).buffers
frame_claims held [] n h = tt
frame_claims held (f ∷ fs) zero h = h.0
frame_claims held (f ∷ fs) (suc n) h = frame_claims held fs n h.1

own_claims : (held : ℕ → Type 0) (fs : List CallFrame) → FramesClaim held fs → BuffersClaim held (own_frame fs).buffers
own_claims held [] h = tt
own_claims held (f ∷ fs) h = h.0

pub content_claims : (held : ℕ → Type 0) (b : ℕ) (s : State) → FramesClaim held s.frames → Claims held (content_of b s)
content_claims held b s h = buffer_claims held (own_frame s.frames).buffers b (own_claims held s.frames h)

pub place_claims : (held : ℕ → Type 0) (place : Place) (s : State) → FramesClaim held s.frames → Claims held (buffer_in place s).content
place_claims held place s h = buffer_claims held (frame_out place.out s).buffers place.number (frame_claims held s.frames place.out h)

-- ---- changing a buffer

buffers_set : (held : ℕ → Type 0) (bs : List Buffer) (n : ℕ) (b : Buffer) → BuffersClaim held bs → Claims held b.content → BuffersClaim held (slice_set bs n b)
buffers_set held [] n b h x = tt
buffers_set held (c ∷ bs) zero b h x = (x, h.1)
buffers_set held (c ∷ bs) (suc n) b h x = (h.0, buffers_set held bs n b h.1 x)

frames_set : (held : ℕ → Type 0) (fs : List CallFrame) (n : ℕ) (f : CallFrame) → FramesClaim held fs → BuffersClaim held f.buffers → FramesClaim held (slice_set fs n f)
frames_set held [] n f h x = tt
frames_set held (g ∷ fs) zero f h x = (x, h.1)
frames_set held (g ∷ fs) (suc n) f h x = (h.0, frames_set held fs n f h.1 x)

own_set : (held : ℕ → Type 0) (f : CallFrame) (fs : List CallFrame) → FramesClaim held fs → BuffersClaim held f.buffers → FramesClaim held (with_own f fs)
own_set held f [] h x = tt
own_set held f (g ∷ fs) h x = (x, h.1)

pub buffer_keeps : (held : ℕ → Type 0) (b : ℕ) (x : Buffer) (s : State) → FramesClaim held s.frames → Claims held x.content → FramesClaim held (with_buffer b x s).frames
buffer_keeps held b x s h is =
    own_set held (record (own_frame s.frames) { buffers = slice_set (own_frame s.frames).buffers b x }) s.frames h (buffers_set held (own_frame s.frames).buffers b x (own_claims held s.frames h) is)

pub holding_keeps : (held : ℕ → Type 0) (b : ℕ) (c : Content) (s : State) → FramesClaim held s.frames → Claims held c → FramesClaim held (holding b c s).frames
holding_keeps held b c s h is = buffer_keeps held b (record (buffer_at b s) { content = c }) s h is

pub emptied_keeps : (held : ℕ → Type 0) (b : ℕ) (s : State) → FramesClaim held s.frames → FramesClaim held (emptied b s).frames
emptied_keeps held b s h = holding_keeps held b Empty s h tt

pub all_emptied_keeps : (held : ℕ → Type 0) (bs : List ℕ) (s : State) → FramesClaim held s.frames → FramesClaim held (all_emptied bs s).frames
all_emptied_keeps held [] s h = h
all_emptied_keeps held (b ∷ bs) s h = all_emptied_keeps held bs (emptied b s) (emptied_keeps held b s h)

pub all_emptied_level : (bs : List ℕ) (s : State) → (all_emptied bs s).level ≡ s.level
all_emptied_level [] s = refl
all_emptied_level (b ∷ bs) s = all_emptied_level bs (emptied b s)

pub marked_keeps : (held : ℕ → Type 0) (b : ℕ) (is : Bool) (s : State) → FramesClaim held s.frames → FramesClaim held (marked_locked b is s).frames
marked_keeps held b is s h = buffer_keeps held b (record (buffer_at b s) { locked = is }) s h (content_claims held b s h)

pub spot_keeps : (held : ℕ → Type 0) (b : ℕ) (spot : Option Spot) (s : State) → FramesClaim held s.frames → FramesClaim held (with_spot b spot s).frames
spot_keeps held b spot s h = buffer_keeps held b (record (buffer_at b s) { spot = spot }) s h (content_claims held b s h)

pub holding_in_keeps : (held : ℕ → Type 0) (place : Place) (c : Content) (s : State) → FramesClaim held s.frames → Claims held c → FramesClaim held (holding_in place c s).frames
holding_in_keeps held place c s h is =
    frames_set held s.frames place.out _ h (buffers_set held (frame_out place.out s).buffers place.number (record (buffer_in place s) { content = c }) (frame_claims held s.frames place.out h) is)

-- ---- variables

set_keeps : (held : ℕ → Type 0) (u : Bool) (n : ℕ) (v : Value) (f : CallFrame) → BuffersClaim held f.buffers → BuffersClaim held (set_in u n v f).buffers
set_keeps held true n v f h = h
set_keeps held false n v f h = h

last_keeps : (held : ℕ → Type 0) (u : Bool) (n : ℕ) (v : Value) (fs : List CallFrame) → FramesClaim held fs → FramesClaim held (with_last (set_in u n v (last_frame fs)) fs)
last_keeps held u n v [] h = tt
last_keeps held u n v (f ∷ []) h = (set_keeps held u n v f h.0, tt)
last_keeps held u n v (f ∷ g ∷ fs) h = (h.0, last_keeps held u n v (g ∷ fs) h.1)

variable_keeps : (held : ℕ → Type 0) (external u : Bool) (n : ℕ) (v : Value) (fs : List CallFrame) → FramesClaim held fs → FramesClaim held (with_frame_for external (set_in u n v (frame_for external fs)) fs)
variable_keeps held true u n v fs h = last_keeps held u n v fs h
variable_keeps held false u n v fs h = own_set held (set_in u n v (own_frame fs)) fs h (set_keeps held u n v (own_frame fs) (own_claims held fs h))

pub assigned_keeps : (held : ℕ → Type 0) (x : Variable) (v : Value) (s : State) → FramesClaim held s.frames → FramesClaim held (assigned x v s).frames
assigned_keeps held x v s h = variable_keeps held x.external x.undoable x.number v s.frames h

-- ---- procedures

new_claims : (held : ℕ → Type 0) (bs : List BufferDef) → BuffersClaim held (map new_buffer bs)
new_claims held [] = tt
new_claims held (b ∷ bs) = (tt, new_claims held bs)

params_keep : (held : ℕ → Type 0) (args : List Argument) (xs : List Variable) (vs : List Value) (f : CallFrame) → BuffersClaim held f.buffers → BuffersClaim held (params_set args xs vs f).buffers
params_keep held [] xs vs f h = h
params_keep held (a ∷ rest) [] vs f h = h
params_keep held (a ∷ rest) (x ∷ xs) [] f h = h
params_keep held (In e ∷ rest) (x ∷ xs) (v ∷ vs) f h = params_keep held rest xs vs (set_in x.undoable x.number v f) (set_keeps held x.undoable x.number v f h)
params_keep held (InOut y ∷ rest) (x ∷ xs) (v ∷ vs) f h = params_keep held rest xs vs (set_in x.undoable x.number v f) (set_keeps held x.undoable x.number v f h)
params_keep held (Out y ∷ rest) (x ∷ xs) (v ∷ vs) f h = params_keep held rest xs vs f h

pub start_claims : (held : ℕ → Type 0) (p : Program) (n : ℕ) → BuffersClaim held (new_frame p n).buffers
start_claims held p n = new_claims held (procedure_at p n).buffers

pub opened_keeps : (held : ℕ → Type 0) (p : Program) (n : ℕ) (args : List Argument) (vs : List Value) (s : State) → FramesClaim held s.frames → FramesClaim held (opened_frame p n args vs s).frames
opened_keeps held p n args vs s h = (params_keep held args (procedure_at p n).parameters vs (new_frame p n) (start_claims held p n), h)

popped_keeps : (held : ℕ → Type 0) (fs : List CallFrame) → FramesClaim held fs → FramesClaim held (popped fs)
popped_keeps held [] h = tt
popped_keeps held (f ∷ fs) h = h.1

pub without_keeps : (held : ℕ → Type 0) (s : State) → FramesClaim held s.frames → FramesClaim held (without_frame s).frames
without_keeps held s h = popped_keeps held s.frames h

pub copied_keeps : (held : ℕ → Type 0) (args : List Argument) (xs : List Variable) (f : CallFrame) (s : State) → FramesClaim held s.frames → FramesClaim held (copied_out args xs f s).frames
copied_keeps held [] xs f s h = h
copied_keeps held (a ∷ rest) [] f s h = h
copied_keeps held (In e ∷ rest) (x ∷ xs) f s h = copied_keeps held rest xs f s h
copied_keeps held (InOut y ∷ rest) (x ∷ xs) f s h = copied_keeps held rest xs f _ (assigned_keeps held y _ s h)
copied_keeps held (Out y ∷ rest) (x ∷ xs) f s h = copied_keeps held rest xs f _ (assigned_keeps held y _ s h)

pub copied_level : (args : List Argument) (xs : List Variable) (f : CallFrame) (s : State) → (copied_out args xs f s).level ≡ s.level
copied_level [] xs f s = refl
copied_level (a ∷ rest) [] f s = refl
copied_level (In e ∷ rest) (x ∷ xs) f s = copied_level rest xs f s
copied_level (InOut y ∷ rest) (x ∷ xs) f s = copied_level rest xs f _
copied_level (Out y ∷ rest) (x ∷ xs) f s = copied_level rest xs f _

-- ---- the end of a level, and UNDO

share_claims : (held : ℕ → Type 0) (c : Content) → Claims held c → Claims held (as_share c)
share_claims held Empty h = tt
share_claims held (Record row values NoLock made) h = tt
share_claims held (Record row values Share made) h = tt
share_claims held (Record row values Exclusive made) h = tt
share_claims held (Pending values since made) h = h

buffers_shared_claim : (held : ℕ → Type 0) (bs : List Buffer) → BuffersClaim held bs → BuffersClaim held (map buffer_shared bs)
buffers_shared_claim held [] h = tt
buffers_shared_claim held (b ∷ bs) h = (share_claims held b.content h.0, buffers_shared_claim held bs h.1)

pub shared_claim : (held : ℕ → Type 0) (fs : List CallFrame) → FramesClaim held fs → FramesClaim held (shared fs)
shared_claim held [] h = tt
shared_claim held (f ∷ fs) h = (buffers_shared_claim held f.buffers h.0, shared_claim held fs h.1)

-- what a copy has
abbrev pub ContentsClaim : (ℕ → Type 0) → List Content → Type 0
ContentsClaim held [] = Unit {0}
ContentsClaim held (c ∷ cs) = Claims held c × ContentsClaim held cs

abbrev pub SavedClaim : (ℕ → Type 0) → List Saved → Type 0
SavedClaim held [] = Unit {0}
SavedClaim held (c ∷ cs) = ContentsClaim held c.contents × SavedClaim held cs

copied_claims : (held : ℕ → Type 0) (c : Content) → Claims held c → Claims held (pending_of c)
copied_claims held Empty h = tt
copied_claims held (Record row values lock made) h = tt
copied_claims held (Pending values since made) h = h

buffers_copied : (held : ℕ → Type 0) (bs : List Buffer) → BuffersClaim held bs → ContentsClaim held (map (λ b. pending_of b.content) bs)
buffers_copied held [] h = tt
buffers_copied held (b ∷ bs) h = (copied_claims held b.content h.0, buffers_copied held bs h.1)

frames_copied : (held : ℕ → Type 0) (fs : List CallFrame) → FramesClaim held fs → SavedClaim held (map saved_of fs)
frames_copied held [] h = tt
frames_copied held (f ∷ fs) h = (buffers_copied held f.buffers h.0, frames_copied held fs h.1)

pub copy_claims : (held : ℕ → Type 0) (s : State) → FramesClaim held s.frames → SavedClaim held (copy_of s).frames
copy_claims held s h = frames_copied held s.frames h

restored_claims : (held : ℕ → Type 0) (c : Content) (b : Buffer) → Claims held c → Claims held b.content → Claims held (content_restored c b).content
restored_claims held Empty b x h = h
restored_claims held (Record row values lock made) b x h = h
restored_claims held (Pending values since made) b x h = x

buffers_restored_claim : (held : ℕ → Type 0) (cs : List Content) (bs : List Buffer) → ContentsClaim held cs → BuffersClaim held bs → BuffersClaim held (contents_restored cs bs)
buffers_restored_claim held [] bs x h = h
buffers_restored_claim held (c ∷ cs) [] x h = tt
buffers_restored_claim held (c ∷ cs) (b ∷ bs) x h = (restored_claims held c b x.0 h.0, buffers_restored_claim held cs bs x.1 h.1)

frames_restored_claim : (held : ℕ → Type 0) (cs : List Saved) (fs : List CallFrame) → SavedClaim held cs → FramesClaim held fs → FramesClaim held (frames_restored cs fs)
frames_restored_claim held [] fs x h = h
frames_restored_claim held (c ∷ cs) [] x h = tt
frames_restored_claim held (c ∷ cs) (f ∷ fs) x h = (buffers_restored_claim held c.contents f.buffers x.0 h.0, frames_restored_claim held cs fs x.1 h.1)

pub put_back_keeps : (held : ℕ → Type 0) (copy : Copy) (s : State) → SavedClaim held copy.frames → FramesClaim held s.frames → FramesClaim held (put_back copy s).frames
put_back_keeps held copy s x h = frames_restored_claim held copy.frames s.frames x h

-- ---- a fault puts contents back, with the present locks

before_claims : (held : ℕ → Type 0) (old now : Content) → Claims held now → Claims held (as_before old now)
before_claims held Empty now h = h
before_claims held (Record row values lock made) Empty h = h
before_claims held (Record row values lock made) (Record r vs l m) h = tt
before_claims held (Record row values lock made) (Pending vs since m) h = h
before_claims held (Pending values since made) Empty h = h
before_claims held (Pending values since made) (Record r vs lock m) h = h
before_claims held (Pending values since made) (Pending vs others m) h = h

pub back_keeps : (held : ℕ → Type 0) (cs : List Content) (bs : List ℕ) (s : State) → FramesClaim held s.frames → FramesClaim held (contents_back cs bs s).frames
back_keeps held cs [] s h = h
back_keeps held cs (b ∷ bs) s h =
    back_keeps held (less cs) bs (holding b (as_before (first_of cs) (content_of b s)) s) (holding_keeps held b (as_before (first_of cs) (content_of b s)) s h (before_claims held (first_of cs) (content_of b s) (content_claims held b s h)))

pub back_level : (cs : List Content) (bs : List ℕ) (s : State) → (contents_back cs bs s).level ≡ s.level
back_level cs [] s = refl
back_level cs (b ∷ bs) s = back_level (less cs) bs (holding b (as_before (first_of cs) (content_of b s)) s)

-- a field of the record in a buffer
field_keeps : (held : ℕ → Type 0) (f : ℕ) (v : Value) (b : ℕ) (c : Content) (s : State) → Claims held c → FramesClaim held s.frames → FramesClaim held (with_field f v b c s).frames
field_keeps held f v b Empty s x h = h
field_keeps held f v b (Record row values lock made) s x h = holding_keeps held b (Record row (slice_set values f v) lock made) s h tt
field_keeps held f v b (Pending values since made) s x h = holding_keeps held b (Pending (slice_set values f v) (f ∷ since) made) s h x

value_keeps : (held : ℕ → Type 0) (x : Evaluated) (set : Value → State → State) (s : State) → ((v : Value) → FramesClaim held (set v s).frames) → FramesClaim held s.frames → FramesClaim held (stored_value x set s).state.frames
value_keeps held (Gives v) set s x h = x v
value_keeps held (Fails c) set s x h = h

in_keeps : (held : ℕ → Type 0) (c : Content) (b f : ℕ) (k : Kind) (v : Value) (s : State) → Claims held c → FramesClaim held s.frames → FramesClaim held (stored_in c b f k v s).state.frames
in_keeps held Empty b f k v s x h = h
in_keeps held (Record row values lock made) b f k v s x h = value_keeps held (fit k v) (λ v. with_field f v b (Record row values lock made)) s (λ w. field_keeps held f w b (Record row values lock made) s x h) h
in_keeps held (Pending values since made) b f k v s x h = value_keeps held (fit k v) (λ v. with_field f v b (Pending values since made)) s (λ w. field_keeps held f w b (Pending values since made) s x h) h

pub stored_keeps : (held : ℕ → Type 0) (t : Target) (v : Value) (s : State) → FramesClaim held s.frames → FramesClaim held (stored t v s).state.frames
stored_keeps held (target.Variable x) v s h = value_keeps held (fit x.kind v) (assigned x) s (λ w. assigned_keeps held x w s h) h
stored_keeps held (target.Field b f k) v s h = in_keeps held (content_of b s) b f k v s (content_claims held b s h) h

pub stored_if_keeps : (held : ℕ → Type 0) (x : Evaluated) (t : Target) (s : State) → FramesClaim held s.frames → FramesClaim held (stored_if x t s).state.frames
stored_if_keeps held (Gives v) t s h = stored_keeps held t v s h
stored_if_keeps held (Fails c) t s h = h

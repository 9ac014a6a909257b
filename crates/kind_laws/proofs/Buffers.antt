-- Changes of buffers and levels that keep the records in buffers of their tables, and the variables of their kinds.
use Rattle.std.proofs.Common.{ℕ, zero, suc, Bool, true, false, List, [], ◌∷◌, Option, map, refl, sym, subst}
use Rattle.std.specs.Prelude.{◌==◌, slice_index_or, slice_set}
use Rattle.abl_base.specs.declared.row.RowId.{RowId}
use Rattle.abl_base.specs.declared.value.Value.{Value}
use Rattle.abl_values.specs.Schema.{SchemaData}
use Rattle.database_protocol.specs.declared.row_order.Cursor.{Cursor}
use Rattle.database_protocol.specs.declared.operation.Op.TheVariants as op
use Rattle.block_meaning.specs.Buffers.{Place, as_share, buffer_in, buffer_shared, holding_in, left, left_if, shared}
use Rattle.block_meaning.specs.Changes.{as_before}
use Rattle.block_meaning.specs.Frames.{all_emptied, buffer_at, content_of, content_restored, contents_restored, copy_of, emptied, frames_restored, holding, marked_locked, no_buffer, no_frame, own_frame, pending_of, put_back, saved_of, table_of as table_now, with_own, with_spot}
use Rattle.block_meaning.specs.State.{Buffer, CallFrame, Content, Copy, Empty, Exclusive, NoLock, Pending, Record, Saved, Share, Spot, State}
use Rattle.flat_machine.specs.Means.{contents_back, contents_of, first_of, less}
use Rattle.kind_laws.specs.Reached.{Ground}
use Rattle.kind_laws.proofs.Kept.{AreBuffers, AreFrames, AreOld, AreRecords, AreSaved, IsBuffer, IsFrame, IsRecord, Suits, table_here, table_in, table_there}
use Rattle.kind_laws.proofs.Rows.{IsRead}
use Rattle.database_meaning.specs.Setting.{HasTable, FitsTable}

-- ---- a list of buffers

-- a buffer where there is none
pub no_buffer_is : (g : Ground) → IsBuffer g 0 no_buffer
no_buffer_is g = record { table = refl; content = tt }

set_buffers : (g : Ground) (tables : ℕ → ℕ) (bs : List Buffer) (b : ℕ) (x : Buffer) → AreBuffers g tables bs → IsBuffer g (tables b) x → AreBuffers g tables (slice_set bs b x)
set_buffers g tables [] b x h is = h
set_buffers g tables (y ∷ ys) zero x h is = first
  where
    first : (m : ℕ) → IsBuffer g (tables m) (slice_index_or (x ∷ ys) m no_buffer)
    first zero = is
    first (suc m) = h (suc m)
set_buffers g tables (y ∷ ys) (suc b) x h is = later (set_buffers g (λ m. tables (suc m)) ys b x (λ m. h (suc m)) is)
  where
    later : AreBuffers g (λ m. tables (suc m)) (slice_set ys b x) → (m : ℕ) → IsBuffer g (tables m) (slice_index_or (y ∷ slice_set ys b x) m no_buffer)
    later rest zero = h zero
    later rest (suc m) = rest m

-- with another content, place or LOCKED
pub with_content : (g : Ground) (t : ℕ) (b : Buffer) (c : Content) → IsBuffer g t b → IsRecord g.schema t c → IsBuffer g t (record b { content = c })
with_content g t b c h is = record { table = h.table; content = is }

-- ---- the buffers of the running procedure

with_buffers : (g : Ground) (n : ℕ) (f : CallFrame) (bs : List Buffer) → IsFrame g n f → AreBuffers g (table_in g n) bs → IsFrame g n (record f { buffers = bs })
with_buffers g n f bs h is = record { procedure = h.procedure; undoable = h.undoable; no_undo = h.no_undo; buffers = is }

buffer_of : (g : Ground) (ns : List ℕ) (fs : List CallFrame) (b : ℕ) → AreFrames g ns fs → IsBuffer g (table_here g ns b) (slice_index_or (own_frame fs).buffers b no_buffer)
buffer_of g [] [] b h = no_buffer_is g
buffer_of g [] (f ∷ fs) b h = absurd h
buffer_of g (n ∷ ns) [] b h = absurd h
buffer_of g (n ∷ ns) (f ∷ fs) b h = h.0.buffers b

pub buffer_has : (g : Ground) (ns : List ℕ) (b : ℕ) (s : State) → AreFrames g ns s.frames → IsBuffer g (table_here g ns b) (buffer_at b s)
buffer_has g ns b s h = buffer_of g ns s.frames b h

-- A BUFFER HOLDS A RECORD OF ITS TABLE, or none
pub content_has : (g : Ground) (ns : List ℕ) (b : ℕ) (s : State) → AreFrames g ns s.frames → IsRecord g.schema (table_here g ns b) (content_of b s)
content_has g ns b s h = (buffer_has g ns b s h).content

own_buffer : (g : Ground) (ns : List ℕ) (fs : List CallFrame) (b : ℕ) (x : Buffer) → AreFrames g ns fs → IsBuffer g (table_here g ns b) x → AreFrames g ns (with_own (record (own_frame fs) { buffers = slice_set (own_frame fs).buffers b x }) fs)
own_buffer g [] [] b x h is = tt
own_buffer g [] (f ∷ fs) b x h is = absurd h
own_buffer g (n ∷ ns) [] b x h is = absurd h
own_buffer g (n ∷ ns) (f ∷ fs) b x h is = (with_buffers g n f (slice_set f.buffers b x) h.0 (set_buffers g (table_in g n) f.buffers b x h.0.buffers is), h.1, h.2)

-- it gets a record of its table
pub holding_keeps : (g : Ground) (ns : List ℕ) (b : ℕ) (c : Content) (s : State) → AreFrames g ns s.frames → IsRecord g.schema (table_here g ns b) c → AreFrames g ns (holding b c s).frames
holding_keeps g ns b c s h is = own_buffer g ns s.frames b (record (buffer_at b s) { content = c }) h (with_content g (table_here g ns b) (buffer_at b s) c (buffer_has g ns b s h) is)

pub emptied_keeps : (g : Ground) (ns : List ℕ) (b : ℕ) (s : State) → AreFrames g ns s.frames → AreFrames g ns (emptied b s).frames
emptied_keeps g ns b s h = holding_keeps g ns b Empty s h tt

pub marked_keeps : (g : Ground) (ns : List ℕ) (b : ℕ) (is : Bool) (s : State) → AreFrames g ns s.frames → AreFrames g ns (marked_locked b is s).frames
marked_keeps g ns b is s h =
    let x = buffer_has g ns b s h in
    own_buffer g ns s.frames b (record (buffer_at b s) { locked = is }) h (record { table = x.table; content = x.content })

pub spot_keeps : (g : Ground) (ns : List ℕ) (b : ℕ) (spot : Option Spot) (s : State) → AreFrames g ns s.frames → AreFrames g ns (with_spot b spot s).frames
spot_keeps g ns b spot s h =
    let x = buffer_has g ns b s h in
    own_buffer g ns s.frames b (record (buffer_at b s) { spot = spot }) h (record { table = x.table; content = x.content })

pub all_emptied_keeps : (g : Ground) (ns : List ℕ) (bs : List ℕ) (s : State) → AreFrames g ns s.frames → AreFrames g ns (all_emptied bs s).frames
all_emptied_keeps g ns [] s h = h
all_emptied_keeps g ns (b ∷ bs) s h = all_emptied_keeps g ns bs (emptied b s) (emptied_keeps g ns b s h)

-- ---- contents before a statement

before_is : (schema : SchemaData) (t : ℕ) (old new : Content) → IsRecord schema t old → IsRecord schema t new → IsRecord schema t (as_before old new)
before_is schema t (Record row values held made) (Record row' values' held' made') x y = x
before_is schema t (Pending values since made) (Pending values' since' made') x y = x
before_is schema t old new x y = y

pub back_keeps : (g : Ground) (ns : List ℕ) (cs : List Content) (bs : List ℕ) (s : State) → AreOld g ns cs bs → AreFrames g ns s.frames → AreFrames g ns (contents_back cs bs s).frames
back_keeps g ns cs [] s old h = h
back_keeps g ns cs (b ∷ bs) s old h =
    back_keeps g ns (less cs) bs (holding b (as_before (first_of cs) (content_of b s)) s) old.1
    (holding_keeps g ns b (as_before (first_of cs) (content_of b s)) s h (before_is g.schema (table_here g ns b) (first_of cs) (content_of b s) old.0 (content_has g ns b s h)))

pub old_have : (g : Ground) (ns : List ℕ) (bs : List ℕ) (s : State) → AreFrames g ns s.frames → AreOld g ns (contents_of s bs) bs
old_have g ns [] s h = tt
old_have g ns (b ∷ bs) s h = (content_has g ns b s h, old_have g ns bs s h)

-- ---- a buffer of any open procedure

there_of : (g : Ground) (ns : List ℕ) (fs : List CallFrame) (out b : ℕ) → AreFrames g ns fs → IsBuffer g (table_there g ns out b) (slice_index_or (slice_index_or fs out no_frame).buffers b no_buffer)
there_of g [] [] out b h = no_buffer_is g
there_of g [] (f ∷ fs) out b h = absurd h
there_of g (n ∷ ns) [] out b h = absurd h
there_of g (n ∷ ns) (f ∷ fs) zero b h = h.0.buffers b
there_of g (n ∷ ns) (f ∷ fs) (suc out) b h = there_of g ns fs out b h.2

pub place_has : (g : Ground) (ns : List ℕ) (at : Place) (s : State) → AreFrames g ns s.frames → IsBuffer g (table_there g ns at.out at.number) (buffer_in at s)
place_has g ns at s h = there_of g ns s.frames at.out at.number h

there_set : (g : Ground) (ns : List ℕ) (fs : List CallFrame) (out b : ℕ) (x : Buffer) → AreFrames g ns fs → IsBuffer g (table_there g ns out b) x →
    AreFrames g ns (slice_set fs out (record (slice_index_or fs out no_frame) { buffers = slice_set (slice_index_or fs out no_frame).buffers b x }))
there_set g [] [] out b x h is = tt
there_set g [] (f ∷ fs) out b x h is = absurd h
there_set g (n ∷ ns) [] out b x h is = absurd h
there_set g (n ∷ ns) (f ∷ fs) zero b x h is = (with_buffers g n f (slice_set f.buffers b x) h.0 (set_buffers g (table_in g n) f.buffers b x h.0.buffers is), h.1, h.2)
there_set g (n ∷ ns) (f ∷ fs) (suc out) b x h is = (h.0, h.1, there_set g ns fs out b x h.2 is)

pub holding_in_keeps : (g : Ground) (ns : List ℕ) (at : Place) (c : Content) (s : State) → AreFrames g ns s.frames → IsRecord g.schema (table_there g ns at.out at.number) c → AreFrames g ns (holding_in at c s).frames
holding_in_keeps g ns at c s h is = there_set g ns s.frames at.out at.number (record (buffer_in at s) { content = c }) h (with_content g (table_there g ns at.out at.number) (buffer_in at s) c (place_has g ns at s h) is)

-- ---- the rows that an operation may find

get_suits : (g : Ground) (t : ℕ) (b : Buffer) (row : RowId) → HasTable g.schema t → IsBuffer g t b → Suits g (op.Get b.table row) t
get_suits g t b row there h values is = (there, subst (λ (n : ℕ). FitsTable g.schema n values) h.table is)

-- those of the buffer's table
pub gets_here : (g : Ground) (ns : List ℕ) (b : ℕ) (row : RowId) (s : State) → HasTable g.schema (table_here g ns b) → AreFrames g ns s.frames → Suits g (op.Get (table_now b s) row) (table_here g ns b)
gets_here g ns b row s there h = get_suits g (table_here g ns b) (buffer_at b s) row there (buffer_has g ns b s h)

pub gets_there : (g : Ground) (ns : List ℕ) (at : Place) (row : RowId) (s : State) → HasTable g.schema (table_there g ns at.out at.number) → AreFrames g ns s.frames → Suits g (op.Get (buffer_in at s).table row) (table_there g ns at.out at.number)
gets_there g ns at row s there h = get_suits g (table_there g ns at.out at.number) (buffer_in at s) row there (place_has g ns at s h)

pub finds_here : (g : Ground) (ns : List ℕ) (b : ℕ) (index : Option ℕ) (prefix : List Value) (from : Option Cursor) (forward : Bool) (s : State) → HasTable g.schema (table_here g ns b) → AreFrames g ns s.frames →
    Suits g (op.Next (table_now b s) index prefix from forward) (table_here g ns b)
finds_here g ns b index prefix from forward s there h values is = (there, subst (λ (n : ℕ). FitsTable g.schema n values) (buffer_has g ns b s h).table is)

-- the buffer's table is of the schema
pub has_now : (g : Ground) (ns : List ℕ) (b : ℕ) (s : State) → AreFrames g ns s.frames → HasTable g.schema (table_here g ns b) → HasTable g.schema (table_now b s)
has_now g ns b s h there = subst (HasTable g.schema) (sym (buffer_has g ns b s h).table) there

pub reads_now : (g : Ground) (ns : List ℕ) (b : ℕ) (index : Option ℕ) (s : State) → AreFrames g ns s.frames → IsRead g.schema (table_here g ns b) index → IsRead g.schema (table_now b s) index
reads_now g ns b index s h is = subst (λ (n : ℕ). IsRead g.schema n index) (sym (buffer_has g ns b s h).table) is

-- ---- levels

shared_is : (schema : SchemaData) (t : ℕ) (c : Content) → IsRecord schema t c → IsRecord schema t (as_share c)
shared_is schema t Empty h = h
shared_is schema t (Record row values NoLock made) h = h
shared_is schema t (Record row values Share made) h = h
shared_is schema t (Record row values Exclusive made) h = h
shared_is schema t (Pending values since made) h = h

shared_buffers : (g : Ground) (tables : ℕ → ℕ) (bs : List Buffer) → AreBuffers g tables bs → AreBuffers g tables (map buffer_shared bs)
shared_buffers g tables [] h = h
shared_buffers g tables (x ∷ xs) h = each (shared_buffers g (λ m. tables (suc m)) xs (λ m. h (suc m)))
  where
    each : AreBuffers g (λ m. tables (suc m)) (map buffer_shared xs) → (m : ℕ) → IsBuffer g (tables m) (slice_index_or (buffer_shared x ∷ map buffer_shared xs) m no_buffer)
    each rest zero = record { table = (h zero).table; content = shared_is g.schema (tables zero) x.content (h zero).content }
    each rest (suc m) = rest m

shared_keeps : (g : Ground) (ns : List ℕ) (fs : List CallFrame) → AreFrames g ns fs → AreFrames g ns (shared fs)
shared_keeps g [] [] h = tt
shared_keeps g [] (f ∷ fs) h = absurd h
shared_keeps g (n ∷ ns) [] h = absurd h
shared_keeps g (n ∷ ns) (f ∷ fs) h = (with_buffers g n f (map buffer_shared f.buffers) h.0 (shared_buffers g (table_in g n) f.buffers h.0.buffers), h.1, shared_keeps g ns fs h.2)

left_if_keeps : (g : Ground) (ns : List ℕ) (is : Bool) (s : State) → AreFrames g ns s.frames → AreFrames g ns (left_if is s).frames
left_if_keeps g ns true s h = shared_keeps g ns s.frames h
left_if_keeps g ns false s h = h

pub left_keeps : (g : Ground) (ns : List ℕ) (s : State) → AreFrames g ns s.frames → AreFrames g ns (left s).frames
left_keeps g ns s h = left_if_keeps g ns (s.level == 1) s h

-- ---- copies

pending_is : (schema : SchemaData) (t : ℕ) (c : Content) → IsRecord schema t c → IsRecord schema t (pending_of c)
pending_is schema t Empty h = tt
pending_is schema t (Record row values held made) h = tt
pending_is schema t (Pending values since made) h = h

saved_records : (g : Ground) (tables : ℕ → ℕ) (bs : List Buffer) → AreBuffers g tables bs → AreRecords g.schema tables (map (λ (b : Buffer). pending_of b.content) bs)
saved_records g tables [] h = λ b. tt
saved_records g tables (x ∷ xs) h = each (saved_records g (λ m. tables (suc m)) xs (λ m. h (suc m)))
  where
    each : AreRecords g.schema (λ m. tables (suc m)) (map (λ (b : Buffer). pending_of b.content) xs) → (m : ℕ) → IsRecord g.schema (tables m) (slice_index_or (pending_of x.content ∷ map (λ (b : Buffer). pending_of b.content) xs) m Empty)
    each rest zero = pending_is g.schema (tables zero) x.content (h zero).content
    each rest (suc m) = rest m

saved_all : (g : Ground) (ns : List ℕ) (fs : List CallFrame) → AreFrames g ns fs → AreSaved g ns (map saved_of fs)
saved_all g [] [] h = tt
saved_all g [] (f ∷ fs) h = absurd h
saved_all g (n ∷ ns) [] h = absurd h
saved_all g (n ∷ ns) (f ∷ fs) h = (h.0.undoable, saved_records g (table_in g n) f.buffers h.0.buffers, saved_all g ns fs h.2)

pub copy_has : (g : Ground) (ns : List ℕ) (s : State) → AreFrames g ns s.frames → AreSaved g ns (copy_of s).frames
copy_has g ns s h = saved_all g ns s.frames h

restored_one : (g : Ground) (t : ℕ) (c : Content) (b : Buffer) → IsRecord g.schema t c → IsBuffer g t b → IsBuffer g t (content_restored c b)
restored_one g t Empty b c h = h
restored_one g t (Record row values held made) b c h = h
restored_one g t (Pending values since made) b c h = record { table = h.table; content = c }

restored_buffers : (g : Ground) (tables : ℕ → ℕ) (cs : List Content) (bs : List Buffer) → AreRecords g.schema tables cs → AreBuffers g tables bs → AreBuffers g tables (contents_restored cs bs)
restored_buffers g tables [] bs c h = h
restored_buffers g tables (x ∷ xs) [] c h = h
restored_buffers g tables (x ∷ xs) (y ∷ ys) c h = each (restored_buffers g (λ m. tables (suc m)) xs ys (λ m. c (suc m)) (λ m. h (suc m)))
  where
    each : AreBuffers g (λ m. tables (suc m)) (contents_restored xs ys) → (m : ℕ) → IsBuffer g (tables m) (slice_index_or (content_restored x y ∷ contents_restored xs ys) m no_buffer)
    each rest zero = restored_one g (tables zero) x y (c zero) (h zero)
    each rest (suc m) = rest m

restored : (g : Ground) (ns : List ℕ) (cs : List Saved) (fs : List CallFrame) → AreSaved g ns cs → AreFrames g ns fs → AreFrames g ns (frames_restored cs fs)
restored g ns [] fs c h = h
restored g [] (c ∷ cs) [] k h = tt
restored g [] (c ∷ cs) (f ∷ fs) k h = absurd h
restored g (n ∷ ns) (c ∷ cs) [] k h = absurd h
restored g (n ∷ ns) (c ∷ cs) (f ∷ fs) k h =
    (record { procedure = h.0.procedure; undoable = k.0; no_undo = h.0.no_undo; buffers = restored_buffers g (table_in g n) c.contents f.buffers k.1 h.0.buffers }, h.1, restored g ns cs fs k.2 h.2)

-- its restoring keeps them
pub put_back_keeps : (g : Ground) (ns : List ℕ) (copy : Copy) (s : State) → AreSaved g ns copy.frames → AreFrames g ns s.frames → AreFrames g ns (put_back copy s).frames
put_back_keeps g ns copy s k h = restored g ns copy.frames s.frames k h

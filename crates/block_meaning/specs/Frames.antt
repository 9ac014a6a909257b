-- Call frames with their variables and buffers, and the copies that an UNDO restores.
use Rattle.std.specs.Prelude.{ℕ, ◌+◌, ◌==◌, List, [], ◌∷◌, Bool, true, false, ◌||◌, Option, Some, None, slice_index_or, slice_set, map}
use Rattle.abl_base.specs.declared.row.RowId.{RowId}
use Rattle.abl_base.specs.declared.value.Value.{Value}
use Rattle.abl_base.specs.declared.value.Value.TheVariants.{Unknown}
use Rattle.bound_tree.specs.declared.expression.Variable.{Variable}
use Rattle.block_meaning.specs.State.{Buffer, CallFrame, Content, Copy, Empty, Exclusive, Held, NoLock, Pending, Record, Saved, Share, Spot, State}

-- ---- call frames, variables and buffers

-- the default where no procedure is open
abbrev pub no_frame : CallFrame
no_frame = record { procedure = 0; undoable = []; no_undo = []; buffers = [] }

-- the default where a procedure has no such buffer
abbrev pub no_buffer : Buffer
no_buffer = record { table = 0; content = Empty; spot = None; locked = false }

-- the frame of the running procedure
abbrev pub own_frame : List CallFrame → CallFrame
own_frame [] = no_frame
own_frame (f ∷ fs) = f

-- the frame of the external procedure
abbrev pub last_frame : List CallFrame → CallFrame
last_frame [] = no_frame
last_frame (f ∷ []) = f
last_frame (f ∷ g ∷ fs) = last_frame (g ∷ fs)

-- replaces the innermost frame
abbrev pub with_own : CallFrame → List CallFrame → List CallFrame
with_own f [] = []
with_own f (g ∷ fs) = f ∷ fs

-- replaces the outermost frame
abbrev pub with_last : CallFrame → List CallFrame → List CallFrame
with_last f [] = []
with_last f (g ∷ []) = f ∷ []
with_last f (g ∷ h ∷ fs) = g ∷ with_last f (h ∷ fs)

-- the frame that has a variable: the external procedure's, or the running one's
abbrev pub frame_for : Bool → List CallFrame → CallFrame
frame_for true fs = last_frame fs
frame_for false fs = own_frame fs

-- replaces it
abbrev pub with_frame_for : Bool → CallFrame → List CallFrame → List CallFrame
with_frame_for true f fs = with_last f fs
with_frame_for false f fs = with_own f fs

-- a variable of a frame by its number, among the undoable ones or the NO-UNDO ones
abbrev pub value_in : Bool → ℕ → CallFrame → Value
value_in true n f = slice_index_or f.undoable n Unknown
value_in false n f = slice_index_or f.no_undo n Unknown

-- gives it another value
abbrev pub set_in : Bool → ℕ → Value → CallFrame → CallFrame
set_in true n v f = record f { undoable = slice_set f.undoable n v }
set_in false n v f = record f { no_undo = slice_set f.no_undo n v }

-- the current value of a variable
abbrev pub value_of : Variable → State → Value
value_of x s = value_in x.undoable x.number (frame_for x.external s.frames)

-- gives a variable a value
abbrev pub assigned : Variable → Value → State → State
assigned x v s = record s { frames = with_frame_for x.external (set_in x.undoable x.number v (frame_for x.external s.frames)) s.frames }

-- a buffer of the running procedure
abbrev pub buffer_at : ℕ → State → Buffer
buffer_at b s = slice_index_or (own_frame s.frames).buffers b no_buffer

-- replaces it
abbrev pub with_buffer : ℕ → Buffer → State → State
with_buffer b x s = record s { frames = with_own (record (own_frame s.frames) { buffers = slice_set (own_frame s.frames).buffers b x }) s.frames }

-- its content
abbrev pub content_of : ℕ → State → Content
content_of b s = (buffer_at b s).content

-- its table
abbrev pub table_of : ℕ → State → ℕ
table_of b s = (buffer_at b s).table

-- gives it this content
abbrev pub holding : ℕ → Content → State → State
holding b c s = with_buffer b (record (buffer_at b s) { content = c }) s

-- empties it
abbrev pub emptied : ℕ → State → State
emptied b s = holding b Empty s

-- empties several
abbrev pub all_emptied : List ℕ → State → State
all_emptied [] s = s
all_emptied (b ∷ bs) s = all_emptied bs (emptied b s)

-- sets its LOCKED
abbrev pub marked_locked : ℕ → Bool → State → State
marked_locked b is s = with_buffer b (record (buffer_at b s) { locked = is }) s

-- sets its place in an index
abbrev pub with_spot : ℕ → Option Spot → State → State
with_spot b spot s = with_buffer b (record (buffer_at b s) { spot = spot }) s

-- whether it is a lock
abbrev pub is_held : Held → Bool
is_held NoLock = false
is_held Share = true
is_held Exclusive = true

-- the number is one of these
abbrev pub is_in : ℕ → List ℕ → Bool
is_in n [] = false
is_in n (m ∷ ms) = (n == m) || is_in n ms

-- the row, if it is held with a lock
abbrev pub row_if : Bool → RowId → Option RowId
row_if true row = Some row
row_if false row = None

-- the row that a content holds with a lock
abbrev pub locked_row : Content → Option RowId
locked_row Empty = None
locked_row (Record row values held made) = row_if (is_held held) row
locked_row (Pending values since made) = None

-- ---- copies

-- a pending record, else Empty
abbrev pub pending_of : Content → Content
pending_of Empty = Empty
pending_of (Record row values held made) = Empty
pending_of (Pending values since made) = Pending values since made

-- what is copied of an open procedure
abbrev pub saved_of : CallFrame → Saved
saved_of f = record { undoable = f.undoable; contents = map (λ b. pending_of b.content) f.buffers }

-- the copy that is made with an Enter
abbrev pub copy_of : State → Copy
copy_of s = record { depth = s.level + 1; made = s.made; frames = map saved_of s.frames }

-- restores a pending record of the copy; any other content stays
abbrev pub content_restored : Content → Buffer → Buffer
content_restored Empty b = b
content_restored (Record row values held made) b = b
content_restored (Pending values since made) b = record b { content = Pending values since made }

-- the same for the buffers of a procedure
abbrev pub contents_restored : List Content → List Buffer → List Buffer
contents_restored [] bs = bs
contents_restored (c ∷ cs) [] = []
contents_restored (c ∷ cs) (b ∷ bs) = content_restored c b ∷ contents_restored cs bs

-- the same for every procedure that the copy has, with its undoable variables
abbrev pub frames_restored : List Saved → List CallFrame → List CallFrame
frames_restored [] fs = fs
frames_restored (c ∷ cs) [] = []
frames_restored (c ∷ cs) (f ∷ fs) = record f { undoable = c.undoable; buffers = contents_restored c.contents f.buffers } ∷ frames_restored cs fs

-- restores the variables and the pending records of the copy; its level is the innermost one
abbrev pub put_back : Copy → State → State
put_back copy s = record s { level = copy.depth; frames = frames_restored copy.frames s.frames }

-- The variables and buffers of a client as its callers see them: the current ones, and the whole copies of the open levels.
use Rattle.std.specs.Prelude.{take, ◌<◌, ◌≡◌, ◌==◌, ℕ, ◌+◌, ◌-◌, List, [], ◌∷◌, ◌++◌, Option, Some, None, Bool, true, false, length, map, reverse}
use Rattle.abl_base.specs.declared.value.Value.{Value}
use Rattle.bound_tree.specs.declared.expression.Variable.{Variable}
use Rattle.block_meaning.specs.State.{Buffer, Content, Copy, Saved, Spot}
use Rattle.block_meaning.specs.Frames.{contents_restored}
use Rattle.block_meaning.specs.Buffers.{Place}
use Rattle.client_memory.specs.Undo.{Values, with_value, value_at}
use Rattle.client_memory.specs.Buffers as buffers

-- the undoable and the NO-UNDO variables and the buffers of each open procedure, the outermost one first, and the copy of each
-- open level, the transaction's own first
pub record Remembered : Type 0 where
  pub undoable : Values
  pub no_undo : Values
  pub buffers : List (List Buffer)
  pub copies : List Copy

-- ---- variables

-- the procedure of a variable, where `count` are open
abbrev pub frame_of : Bool → ℕ → ℕ
frame_of true count = 0
frame_of false count = count - 1

-- gives a variable by its number another value
abbrev pub set_as : Bool → ℕ → ℕ → Value → Remembered → Remembered
set_as true k n v m = record m { undoable = with_value k n v m.undoable }
set_as false k n v m = record m { no_undo = with_value k n v m.no_undo }

-- gives a variable another value
abbrev pub set_variable : Variable → Value → Remembered → Remembered
set_variable x v m = set_as x.undoable (frame_of x.external (length m.undoable)) x.number v m

-- its value
abbrev pub value_as : Bool → ℕ → ℕ → Remembered → Value
value_as true k n m = value_at k n m.undoable
value_as false k n m = value_at k n m.no_undo

abbrev pub value_now : Variable → Remembered → Value
value_now x m = value_as x.undoable (frame_of x.external (length m.undoable)) x.number m

-- ---- buffers

-- the buffer at a place
abbrev pub buffer_at : Place → Remembered → Buffer
buffer_at at m = buffers.buffer_at at m.buffers

-- gives it this content
abbrev pub holding : Place → Content → Remembered → Remembered
holding at c m = record m { buffers = buffers.changed_in at (buffers.with_content c) m.buffers }

-- sets its LOCKED
abbrev pub marked_locked : Place → Bool → Remembered → Remembered
marked_locked at is m = record m { buffers = buffers.changed_in at (buffers.with_locked is) m.buffers }

-- sets its place in an index
abbrev pub with_spot : Place → Option Spot → Remembered → Remembered
with_spot at spot m = record m { buffers = buffers.changed_in at (buffers.with_spot spot) m.buffers }

-- ---- levels

-- what a copy has of each procedure
abbrev pub saved_now : Values → List (List Buffer) → List Saved
saved_now [] bss = []
saved_now (vs ∷ vss) [] = []
saved_now (vs ∷ vss) (bs ∷ bss) = record { undoable = vs; contents = buffers.saved_contents bs } ∷ saved_now vss bss

-- the copy of a level that begins
abbrev pub copy_now : ℕ → Remembered → Copy
copy_now made m = record { depth = length m.copies + 1; made = made; frames = reverse (saved_now m.undoable m.buffers) }

-- a level begins
abbrev pub entered : ℕ → Remembered → Remembered
entered made m = record m { copies = m.copies ++ copy_now made m ∷ [] }

-- drops the innermost copy
abbrev pub without_last : List Copy → List Copy
without_last [] = []
without_last (c ∷ []) = []
without_last (c ∷ d ∷ cs) = c ∷ without_last (d ∷ cs)

-- leaves the innermost level; where it is the transaction's own, exclusive locks become share locks
abbrev pub left : Remembered → Remembered
left m = record m { buffers = buffers.shared_if (length m.copies == 1) m.buffers; copies = without_last m.copies }

-- leaves the levels inside of level d
abbrev pub left_to : ℕ → Remembered → Remembered
left_to d m = record m { copies = take d m.copies }

-- the innermost copy, if a level is open
abbrev pub last_copy : List Copy → Option Copy
last_copy [] = None
last_copy (c ∷ []) = Some c
last_copy (c ∷ d ∷ cs) = last_copy (d ∷ cs)

-- the number of CREATEs before the level of a copy began; 0 without a level
abbrev pub made_before : Option Copy → ℕ
made_before None = 0
made_before (Some c) = c.made

-- the variables in a copy, the outermost procedure first
abbrev pub variables_in : Copy → Values
variables_in c = reverse (map (λ x. x.undoable) c.frames)

-- the pending records in a copy, the outermost procedure first
abbrev pub contents_in : Copy → List (List Content)
contents_in c = reverse (map (λ x. x.contents) c.frames)

-- restores pending records in the buffers of each procedure
abbrev pub buffers_restored : List (List Content) → List (List Buffer) → List (List Buffer)
buffers_restored [] bss = bss
buffers_restored (cs ∷ css) [] = []
buffers_restored (cs ∷ css) (bs ∷ bss) = contents_restored cs bs ∷ buffers_restored css bss

-- restores the variables and the pending records of a copy, if there is one
abbrev pub restored_from : Option Copy → Remembered → Remembered
restored_from None m = m
restored_from (Some c) m = record m { undoable = variables_in c; buffers = buffers_restored (contents_in c) m.buffers }

-- those of the innermost copy
abbrev pub restored : Remembered → Remembered
restored m = restored_from (last_copy m.copies) m

-- the copy has all open procedures
abbrev pub HasAll : Option Copy → Values → Type 0
HasAll None vss = Unit {0}
HasAll (Some c) vss = length c.frames ≡ length vss

-- the innermost copy does
abbrev pub IsWhole : Remembered → Type 0
IsWhole m = HasAll (last_copy m.copies) m.undoable

-- ---- procedures

-- a procedure begins, with these variables and buffers
abbrev pub begun : List Value → List Value → List Buffer → Remembered → Remembered
begun us ks bs m = record m { undoable = m.undoable ++ us ∷ []; no_undo = m.no_undo ++ ks ∷ []; buffers = m.buffers ++ bs ∷ [] }

-- the innermost procedure ends
abbrev pub ended : Remembered → Remembered
ended m = record m { undoable = take (length m.undoable - 1) m.undoable; no_undo = take (length m.undoable - 1) m.no_undo; buffers = take (length m.undoable - 1) m.buffers }

-- the copy has fewer procedures than are open
abbrev pub HasFewer : Option Copy → Values → Type 0
HasFewer None vss = Unit {0}
HasFewer (Some c) vss = length c.frames < length vss

-- the innermost copy does
abbrev pub IsOuter : Remembered → Type 0
IsOuter m = (0 < length m.undoable) × HasFewer (last_copy m.copies) m.undoable

-- no procedure has a buffer
abbrev pub HasNoBuffers : Remembered → Type 0
HasNoBuffers m = buffers.HasNoBuffers m.buffers

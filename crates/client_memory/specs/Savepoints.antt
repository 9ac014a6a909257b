-- What savepoints and old values denote.
use Rattle.std.specs.Prelude.{◌≤◌, ℕ, ◌+◌, List, [], ◌∷◌, map, reverse, replicate, take, length}
use Rattle.block_meaning.specs.State.{Buffer, Content, Empty}
use Rattle.client_memory.specs.Undo.{Savepoint, Values, copy_at}
use Rattle.client_memory.specs.declared.memory.OldValue.{OldValue as OldValueRs}
use Rattle.client_memory.specs.declared.memory.Savepoint.{Savepoint as SavepointRs}
use Rattle.client_memory.specs.OldValues.{old_values_of}
use Rattle.client_memory.specs.Memory.{Remembered}

-- the contents for each procedure: the stored ones for the first procedures, and Empty for every buffer of the others. The second list has
-- the number of buffers of each procedure
abbrev pub contents_with : List (List Content) → List ℕ → List (List Content)
contents_with css [] = []
contents_with [] (n ∷ ns) = replicate n Empty ∷ contents_with [] ns
contents_with (cs ∷ css) (n ∷ ns) = cs ∷ contents_with css ns

-- a savepoint with n outer levels; `counts` has the number of buffers of each procedure
abbrev pub savepoint_of : List ℕ → ℕ → SavepointRs → Savepoint
savepoint_of counts n m = record { depth = n + 1; made = m.made; old_values = m.old_values; pending = contents_with m.pending.items (take m.frames counts) }

-- all savepoints, the outermost level first
abbrev pub savepoints_from : List ℕ → ℕ → List SavepointRs → List Savepoint
savepoints_from counts n [] = []
savepoints_from counts n (m ∷ ms) = savepoint_of counts n m ∷ savepoints_from counts (n + 1) ms

-- the number of buffers of each procedure
abbrev pub counts_of : List (List Buffer) → List ℕ
counts_of bss = map (λ bs. length bs) bss

-- the variables, the buffers and the copies
abbrev pub remembered : Values → Values → List (List Buffer) → List OldValueRs → List SavepointRs → Remembered
remembered undoable no_undo bss old_values ms = record { undoable = undoable; no_undo = no_undo; buffers = bss; copies = map (copy_at (reverse (old_values_of old_values)) undoable) (savepoints_from (counts_of bss) 0 ms) }

-- the savepoints are nested, and name at most this many old values and procedures
abbrev pub AreInOrder : ℕ → ℕ → ℕ → ℕ → List SavepointRs → Type 0
AreInOrder old_values frames low few [] = (low ≤ old_values) × (few ≤ frames)
AreInOrder old_values frames low few (m ∷ ms) = (low ≤ m.old_values) × (few ≤ m.frames) × AreInOrder old_values frames m.old_values m.frames ms

-- the number of procedures that were open when the innermost level began
abbrev pub innermost_frames : List SavepointRs → ℕ
innermost_frames [] = 0
innermost_frames (m ∷ []) = m.frames
innermost_frames (m ∷ k ∷ ms) = innermost_frames (k ∷ ms)

-- the number of CREATEs before the innermost level began; 0 where no level is open
abbrev pub innermost_made : List SavepointRs → ℕ
innermost_made [] = 0
innermost_made (m ∷ []) = m.made
innermost_made (m ∷ k ∷ ms) = innermost_made (k ∷ ms)

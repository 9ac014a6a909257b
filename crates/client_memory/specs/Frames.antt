-- The states that have the variables and the buffers of a client.
use Rattle.std.specs.Prelude.{◌≡◌, ℕ, List, [], ◌∷◌, length, reverse}
use Rattle.block_meaning.specs.State.{State, CallFrame, Buffer}
use Rattle.client_memory.specs.Undo.{Values}
use Rattle.client_memory.specs.Memory.{Remembered}

-- the open procedures, the outermost first
abbrev pub frames_out : List ℕ → Values → Values → List (List Buffer) → List CallFrame
frames_out [] uss kss bss = []
frames_out (n ∷ ns) [] kss bss = []
frames_out (n ∷ ns) (us ∷ uss) [] bss = []
frames_out (n ∷ ns) (us ∷ uss) (ks ∷ kss) [] = []
frames_out (n ∷ ns) (us ∷ uss) (ks ∷ kss) (bs ∷ bss) = record { procedure = n; undoable = us; no_undo = ks; buffers = bs } ∷ frames_out ns uss kss bss

-- those of a memory, where the procedures have these numbers
abbrev pub frames_of : List ℕ → Remembered → List CallFrame
frames_of ns m = frames_out ns m.undoable m.no_undo m.buffers

-- the state with these procedures; `rest` has its other fields
abbrev pub state_with : State → List ℕ → Remembered → State
state_with rest ns m = record rest { frames = reverse (frames_of ns m) }

-- the same, with the number of open levels
abbrev pub state_at : State → List ℕ → Remembered → State
state_at rest ns m = state_with (record rest { level = length m.copies }) ns m

-- the numbers of procedures agree
abbrev pub AreEven : List ℕ → Remembered → Type 0
AreEven ns m = (length ns ≡ length m.undoable) × (length ns ≡ length m.no_undo) × (length ns ≡ length m.buffers)

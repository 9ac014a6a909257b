-- The entries of the stack that lock and store the changed buffers of a statement one by one.
use Rattle.std.specs.Prelude.{ℕ, List, [], ◌∷◌}
use Rattle.block_meaning.specs.State.{Content}
use Rattle.block_meaning.specs.Changes.{once}
use Rattle.block_meaning.specs.Frames.{is_in}
use Rattle.block_meaning.specs.Buffers.{own}
use Rattle.flat_machine.specs.Flat as flat
use Rattle.client_memory.specs.Memory.{Remembered, buffer_at}

-- each buffer is locked for the change, in order
abbrev pub lock_entries : List ℕ → List flat.StackEntry → List flat.StackEntry
lock_entries [] ks = ks
lock_entries (b ∷ bs) ks = flat.ThenDo (flat.LocksOne b) ∷ lock_entries bs ks

-- each buffer is stored, in order; a fault restores it, and those after it, from their contents before the statement
abbrev pub store_entries : (ℕ → Content) → List ℕ → List flat.StackEntry → List flat.StackEntry
store_entries before [] ks = ks
store_entries before (b ∷ bs) ks = flat.ThenDo (flat.SettlesOne b) ∷ flat.AsBefore (before b ∷ []) (b ∷ []) ∷ store_entries before bs ks

-- those that are not among the first ones
abbrev pub others : List ℕ → List ℕ → List ℕ
others firsts [] = []
others firsts (b ∷ bs) = once (is_in b firsts) b (others firsts bs)

-- what a buffer of the running procedure holds
abbrev pub content_at : Remembered → ℕ → Content
content_at m b = (buffer_at (own b) m).content

-- Buffers of the running procedure that are emptied.
use Rattle.std.specs.Prelude.{ℕ, List, [], ◌∷◌}
use Rattle.block_meaning.specs.State.{Empty}
use Rattle.block_meaning.specs.Buffers.{own}
use Rattle.client_memory.specs.Memory.{Remembered, holding}

abbrev pub all_emptied : List ℕ → Remembered → Remembered
all_emptied [] m = m
all_emptied (b ∷ bs) m = all_emptied bs (holding (own b) Empty m)

-- What the end of a client leaves.
use Rattle.std.specs.Prelude.{ℕ}
use Rattle.key_index.specs.Places.{without_keeper, without_left}
use Rattle.row_indexes.specs.Places.{Keepers, Places}

-- the places, without the client's placeholders
abbrev pub ended : ℕ → Places → Places
ended client places j key row = without_left client (places j key row)

-- the keepers, without the client
abbrev pub freed : ℕ → Keepers → Keepers
freed client keepers j key = without_keeper client (keepers j key)

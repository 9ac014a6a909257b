-- The moves of the clients' changes.
use Rattle.std.specs.Prelude.{ℕ, zero, suc, ◌<◌, List, [], ◌∷◌, length}
use Rattle.std.specs.Vec.{vec_capacity}
use Rattle.row_indexes.specs.declared.moves.Moved.{Moved}
use Rattle.row_moves.specs.declared.client_moves.ClientMoves.{ClientMoves}

-- the moves of the changes of the client with that number, the oldest first
abbrev pub moved_in : List ClientMoves → ℕ → List Moved
moved_in [] c = []
moved_in (client ∷ others) zero = client.changes.items
moved_in (client ∷ others) (suc c) = moved_in others c

-- there is memory for one more change of the client
abbrev pub HasRoom : List ClientMoves → ℕ → Type 0
HasRoom [] c = ⊥
HasRoom (client ∷ others) zero = length client.changes.items < vec_capacity client.changes
HasRoom (client ∷ others) (suc c) = HasRoom others c

-- A client between two calls, as its callers see it.
use Rattle.std.specs.Prelude.{ℕ, List}
use Rattle.block_meaning.specs.declared.wants.Piece.{Piece}
use Rattle.client_output.specs.Written as output
use Rattle.client_core.specs.declared.client.Client.{Client}

abbrev pub ClientView : Type 0
ClientView = Client

-- it has written these pieces, where the named outputs have these names
abbrev pub HasWritten : ClientView → List (List ℕ) → List Piece → Type 0
HasWritten c names pieces = output.HasWritten c.machine.output names pieces

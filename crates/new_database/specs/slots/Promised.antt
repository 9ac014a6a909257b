-- The writes that were promised memory.
use Rattle.std.specs.Prelude.{ℕ, ◌+◌, List}
use Rattle.std.specs.List.{sum_by}
use Rattle.new_database.specs.declared.slots.client.Client.{Client}

-- memory is reserved for this number of further writes of the client
abbrev pub promised_to : Client → ℕ
promised_to c = c.spare + c.low_room

-- the same for all clients together
abbrev pub promised : List Client → ℕ
promised clients = sum_by promised_to clients

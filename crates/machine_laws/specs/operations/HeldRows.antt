-- Which changes a client's own events allow.
use Rattle.std.specs.Prelude.{◌≡◌, List, true}
use Rattle.database_protocol.specs.declared.event.Event.{Event}
use Rattle.database_protocol.specs.declared.operation.Op.{Op}
use Rattle.database_protocol.specs.declared.operation.Op.TheVariants.{Delete, Put}
use Rattle.machine_laws.specs.locks.Exclusive.{holds}

-- a Put or Delete is of a row that the client holds exclusively by these events of its own
abbrev pub IsOfHeldRow : List Event → Op → Type 0
IsOfHeldRow own (Put table row values) = holds own row.0 ≡ true
IsOfHeldRow own (Delete table row) = holds own row.0 ≡ true
IsOfHeldRow own _ = Unit {0}

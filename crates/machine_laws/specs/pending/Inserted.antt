-- Insertions are inside a level.
use Rattle.std.specs.Prelude.{◌<◌, ℕ}
use Rattle.database_protocol.specs.declared.operation.Op.{Op}
use Rattle.database_protocol.specs.declared.operation.Op.TheVariants.{Insert}

-- with this number of open levels, an Insert is inside one
abbrev pub IsInsertedInside : ℕ → Op → Type 0
IsInsertedInside levels (Insert table values) = 0 < levels
IsInsertedInside levels _ = Unit {0}

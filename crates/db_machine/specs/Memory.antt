-- When an operation may be answered NoMemory.
use Rattle.std.specs.Prelude.{◌≡◌, ◌≢◌, ℕ, []}
use Rattle.database_protocol.specs.declared.operation.Op.{Op}
use Rattle.database_protocol.specs.declared.operation.Op.TheVariants.{Leave, Back, Drop as DropLock, End}

-- an operation of a client with this many open levels may be answered NoMemory: an End, a Back or a Drop never, and a Leave only
-- where it commits and names rows whose locks stay
abbrev pub MayLackMemory : ℕ → Op → Type 0
MayLackMemory depth End = ⊥
MayLackMemory depth (Back level) = ⊥
MayLackMemory depth (DropLock row) = ⊥
MayLackMemory depth (Leave keep) = (depth ≡ 1) × (keep ≢ [])
MayLackMemory depth _ = Unit {0}
